-- The texts of commands.
use Rattle.std.specs.Prelude.{ℕ, ◌+◌, List, [], ◌∷◌, ◌++◌, Option, Some, None, Result, Ok, Err, codes, flat_map, ◌==◌, if◌then◌else◌}
use Rattle.std.specs.Fmt.{decimal}
use Rattle.pdb.specs.Error.{Error}
use Rattle.pdb.specs.Refusal.{number_of}
use Rattle.pdb.specs.Refusal.{◌>>=◌}
use Rattle.pdb.specs.Left.{Left}
use Rattle.pdb.specs.DBISectionContribution.{DBISectionContribution}
use Rattle.pdb.specs.HeaderVersion.{HeaderVersion}
use Rattle.pdb.specs.HeaderVersion.TheVariants.{V41, V50, V60, V70, V110, OtherValue}
use Rattle.pdb.specs.DBIHeader.{DBIHeader}
use Rattle.pdb.specs.PdbInternalSectionOffset.{PdbInternalSectionOffset}
use Rattle.pdb.specs.Header.{header_of, age_of}
use Rattle.pdb.specs.Machine.{machine_of, machine_text}
use Rattle.pdb.specs.Information.{Information}
use Rattle.pdb.specs.Names.{Name, names_of}
use Rattle.pdb.specs.Modules.{ModuleEntry, modules_in}
use Rattle.pdb.specs.Contributions.{contributions_in}
use Rattle.pdb.specs.Data.{Data}
use Rattle.pdb.specs.Form.{Form}
use Rattle.pdb.specs.Form.TheVariants as form
use Rattle.pdb.specs.Forms.{kind_at, record_at}
use Rattle.pdb.specs.Headings.{Titled, title_of}
use Rattle.pdb.specs.SymbolList.{Entry, symbols_from}
use Rattle.pdb.specs.ImageSectionHeader.{ImageSectionHeader}
use Rattle.pdb.specs.SectionHeader.{name_of as section_name}
use Rattle.pdb.specs.Answers.{information_in, debug_information_in, global_symbols_in, sections_in}
use Rattle.pdb_text.specs.Digits.{hex}

-- the line of a refusal
abbrev pub error_text : Error → List ℕ
error_text e = codes "error " ++ decimal (number_of e) ++ codes "\n"

-- the text of what was had, or the line of its refusal
abbrev pub told : {A : Type 0} → Result A Error → (A → List ℕ) → List ℕ
told (Ok x) text = text x
told (Err e) text = error_text e

-- the line of a fault, where there is one
abbrev pub fault_text : Option Error → List ℕ
fault_text None = []
fault_text (Some e) = error_text e

-- the number of a stream, `-` for that of no stream
abbrev pub stream_text : ℕ → List ℕ
stream_text n = if n == 0xffff then codes "-" else decimal n

-- a number, `-` where there is none
abbrev pub optional_text : Option ℕ → List ℕ
optional_text None = codes "-"
optional_text (Some n) = decimal n

-- a section and an offset in it
abbrev pub offset_text : PdbInternalSectionOffset → List ℕ
offset_text o = hex 4 o.section ++ codes ":" ++ hex 8 o.offset

-- ---- information

abbrev pub version_text : HeaderVersion → List ℕ
version_text V41 = codes "V41"
version_text V50 = codes "V50"
version_text V60 = codes "V60"
version_text V70 = codes "V70"
version_text V110 = codes "V110"
version_text (OtherValue n) = decimal n

-- the line of the information stream
unfoldable pub information_text : Information → List ℕ
information_text i = codes "info " ++ version_text i.version ++ codes " " ++ decimal i.signature ++ codes " " ++ decimal i.age ++ codes " " ++ flat_map (hex 2) i.guid ++ codes "\n"

-- the line of a DBI stream with this header
unfoldable pub header_text : DBIHeader → List ℕ
header_text h = codes "dbi " ++ optional_text (age_of h.age) ++ codes " " ++ machine_text (machine_of h.machine_type) ++ codes "\n"

abbrev pub debug_information_text : List ℕ → List ℕ
debug_information_text b = told (header_of b) header_text

-- both lines, or the refusal of the one or of the other
unfoldable pub info_text : List ℕ → List ℕ
info_text file = told (information_in file) (λ i. information_text i ++ told (debug_information_in file) debug_information_text)

-- ---- names

-- the line of a name
unfoldable pub stream_name_text : Name → List ℕ
stream_name_text n = codes "name " ++ stream_text n.stream ++ codes " " ++ n.name ++ codes "\n"

unfoldable pub names_text : List ℕ → List ℕ
names_text file = told (information_in file >>= λ i. names_of i.bytes i.names_offset i.names_size) (flat_map stream_name_text)

-- ---- modules

-- the number of a module's stream, and the sizes of its parts
unfoldable pub parts_text : ModuleEntry → List ℕ
parts_text m = stream_text m.stream ++ codes " " ++ decimal m.symbols_size ++ codes " " ++ decimal m.lines_size ++ codes " " ++ decimal m.c13_lines_size

-- the line of the module with this index in the list
unfoldable pub module_line : ℕ → ModuleEntry → List ℕ
module_line k m = codes "module " ++ decimal k ++ codes " " ++ parts_text m ++ codes " " ++ m.module_name ++ codes "\n"

-- the line of the file from which it came
unfoldable pub object_line : ModuleEntry → List ℕ
object_line m = codes "object " ++ m.object_file_name ++ codes "\n"

-- the lines of modules that begin at this index in the list
abbrev pub modules_text_from : ℕ → List ModuleEntry → List ℕ
modules_text_from k [] = []
modules_text_from k (m ∷ ms) = module_line k m ++ object_line m ++ modules_text_from (k + 1) ms

-- the lines of the modules that are left, and then that of the fault
abbrev pub module_list_text : ℕ → Left ModuleEntry → List ℕ
module_list_text k left = modules_text_from k left.items ++ fault_text left.fault

unfoldable pub modules_text : List ℕ → List ℕ
modules_text file = told (debug_information_in file >>= modules_in) (module_list_text 0)

-- ---- contributions

-- the size and characteristics of a contribution's bytes, their module, and two checksums
unfoldable pub contributed_text : DBISectionContribution → List ℕ
contributed_text c = decimal c.size ++ codes " " ++ hex 8 c.characteristics.0 ++ codes " " ++ decimal c.«module» ++ codes " " ++ hex 8 c.data_crc ++ codes " " ++ hex 8 c.reloc_crc

-- the line of a contribution
unfoldable pub contribution_text : DBISectionContribution → List ℕ
contribution_text c = codes "contribution " ++ offset_text c.offset ++ codes " " ++ contributed_text c ++ codes "\n"

-- the lines of the contributions that are left, and then that of the fault
abbrev pub contribution_list_text : Left DBISectionContribution → List ℕ
contribution_list_text left = flat_map contribution_text left.items ++ fault_text left.fault

unfoldable pub contributions_text : List ℕ → List ℕ
contributions_text file = told (debug_information_in file >>= contributions_in) contribution_list_text

-- ---- sections

-- the line of a section header: its sizes, address and offset, its characteristics, and its name
unfoldable pub section_text : ImageSectionHeader → List ℕ
section_text h = codes "section " ++ hex 8 h.virtual_size ++ codes " " ++ hex 8 h.virtual_address ++ codes " " ++ hex 8 h.size_of_raw_data ++ codes " " ++ hex 8 h.pointer_to_raw_data ++ codes " " ++ hex 8 h.characteristics.0 ++ codes " " ++ section_name h ++ codes "\n"

-- the lines of the section headers, or `none` where the file has no stream of them
abbrev pub section_list_text : Option (List ImageSectionHeader) → List ℕ
section_list_text None = codes "none\n"
section_list_text (Some headers) = flat_map section_text headers

unfoldable pub sections_text : List ℕ → List ℕ
sections_text file = told (sections_in file) section_list_text

-- ---- symbols

-- the name of a form
abbrev pub form_text : Form → List ℕ
form_text form.ScopeEnd = codes "ScopeEnd"
form_text form.ObjName = codes "ObjName"
form_text form.RegisterVariable = codes "RegisterVariable"
form_text form.Constant = codes "Constant"
form_text form.UserDefinedType = codes "UserDefinedType"
form_text form.MultiRegisterVariable = codes "MultiRegisterVariable"
form_text form.Data = codes "Data"
form_text form.Public = codes "Public"
form_text form.Procedure = codes "Procedure"
form_text form.ThreadStorage = codes "ThreadStorage"
form_text form.CompileFlags = codes "CompileFlags"
form_text form.UsingNamespace = codes "UsingNamespace"
form_text form.ProcedureReference = codes "ProcedureReference"
form_text form.DataReference = codes "DataReference"
form_text form.AnnotationReference = codes "AnnotationReference"
form_text form.Trampoline = codes "Trampoline"
form_text form.Export = codes "Export"
form_text form.Local = codes "Local"
form_text form.BuildInfo = codes "BuildInfo"
form_text form.InlineSite = codes "InlineSite"
form_text form.InlineSiteEnd = codes "InlineSiteEnd"
form_text form.ProcedureEnd = codes "ProcedureEnd"
form_text form.Label = codes "Label"
form_text form.Block = codes "Block"
form_text form.RegisterRelative = codes "RegisterRelative"
form_text form.Thunk = codes "Thunk"
form_text form.SeparatedCode = codes "SeparatedCode"

-- a space before a name, and the name, where there is one
abbrev pub space_text : Option (List ℕ) → List ℕ
space_text None = []
space_text (Some name) = codes " "

abbrev pub bytes_of : Option (List ℕ) → List ℕ
bytes_of None = []
bytes_of (Some name) = name

-- a refusal in a symbol's line
abbrev pub refused_text : Error → List ℕ
refused_text e = codes "refused " ++ decimal (number_of e)

-- the name of a form, and a record's name, where it has one
abbrev pub title_text : Titled → List ℕ
title_text t = form_text t.0 ++ space_text t.1 ++ bytes_of t.1

-- what a record says, or its refusal
abbrev pub record_text : Result Data Error → List ℕ
record_text (Ok d) = title_text (title_of d)
record_text (Err e) = refused_text e

-- the line of a symbol
unfoldable pub symbol_text : Entry → List ℕ
symbol_text s = codes "symbol " ++ hex 8 s.index ++ codes " " ++ hex 4 (kind_at s.bytes) ++ codes " " ++ record_text (record_at s.bytes) ++ codes "\n"

-- the lines of the symbols that are left, and then that of the fault
abbrev pub symbols_text : Left Entry → List ℕ
symbols_text left = flat_map symbol_text left.items ++ fault_text left.fault

unfoldable pub globals_text : List ℕ → List ℕ
globals_text file = told (global_symbols_in file) (λ b. symbols_text (symbols_from b 0))
