-- The texts of commands that name a module.
use Rattle.std.specs.Prelude.{ℕ, List, [], ◌∷◌, ◌++◌, Option, Some, None, Result, Ok, codes, flat_map, map, if◌then◌else◌}
use Rattle.std.specs.Fmt.{decimal}
use Rattle.pdb.specs.Error.{Error}
use Rattle.pdb.specs.Refusal.{◌>>=◌}
use Rattle.pdb.specs.Left.{Left, ended}
use Rattle.pdb.specs.PdbInternalSectionOffset.{PdbInternalSectionOffset}
use Rattle.pdb.specs.LineInfo.{LineInfo}
use Rattle.pdb.specs.LineInfoKind.{LineInfoKind}
use Rattle.pdb.specs.LineInfoKind.TheVariants.{Expression, Statement}
use Rattle.pdb.specs.CrossModuleExport.{CrossModuleExport}
use Rattle.pdb.specs.Data.{Data}
use Rattle.pdb.specs.Data.Data.{Procedure, InlineSite}
use Rattle.pdb.specs.Forms.{record_at}
use Rattle.pdb.specs.SymbolList.{Entry}
use Rattle.pdb.specs.ModuleStream.{ModuleBytes, symbols_of, line_program_of, inlinees_of, imports_of, exports_of}
use Rattle.pdb.specs.Lines.{lines_of}
use Rattle.pdb.specs.Files.{FileOf, Checksum, files_of}
use Rattle.pdb.specs.Files.Checksum.{absent, md5, sha1, sha256}
use Rattle.pdb.specs.Inlinees.{InlineeEntry, inlinee_with}
use Rattle.pdb.specs.Inlined.{lines_of_site}
use Rattle.pdb.specs.CrossModule.{Reference, reference_of}
use Rattle.pdb.specs.ExportViews.{export_of, is_id, local_of, global_number_of}
use Rattle.pdb.specs.Answers.{module_of_file}
use Rattle.pdb_text.specs.Digits.{hex}
use Rattle.pdb_list.specs.Texts.{told, error_text, fault_text, offset_text, symbols_text}

-- the text of what a module's stream says; `none` where there is no such module, or it has no stream
abbrev pub text_of_module : (ModuleBytes → List ℕ) → Option ModuleBytes → List ℕ
text_of_module text None = codes "none\n"
text_of_module text (Some m) = text m

abbrev pub module_text : List ℕ → ℕ → (ModuleBytes → List ℕ) → List ℕ
module_text file k text = told (module_of_file file k) (text_of_module text)

-- ---- symbols

unfoldable pub symbols_of_text : ModuleBytes → List ℕ
symbols_of_text m = told (symbols_of m) symbols_text

-- ---- lines

-- a space and a number, `-` where there is none
abbrev pub field_text : ℕ → List ℕ
field_text n = codes " " ++ decimal n

abbrev pub optional_field_text : Option ℕ → List ℕ
optional_field_text None = codes " -"
optional_field_text (Some n) = field_text n

abbrev pub line_kind_text : LineInfoKind → List ℕ
line_kind_text Expression = codes " E\n"
line_kind_text Statement = codes " S\n"

-- a record's length, file, first line and last line
unfoldable pub numbers_text : LineInfo → List ℕ
numbers_text r = optional_field_text r.length ++ field_text r.file_index.0 ++ field_text r.line_start ++ field_text r.line_end

-- its columns
unfoldable pub columns_text : LineInfo → List ℕ
columns_text r = optional_field_text r.column_start ++ optional_field_text r.column_end

-- the line of a line record
unfoldable pub line_text : LineInfo → List ℕ
line_text r = codes "line " ++ offset_text r.offset ++ numbers_text r ++ columns_text r ++ line_kind_text r.kind

-- the lines of the records that are left, and then that of the fault
abbrev pub line_list_text : Left LineInfo → List ℕ
line_list_text left = flat_map line_text left.items ++ fault_text left.fault

unfoldable pub lines_of_text : ModuleBytes → List ℕ
lines_of_text m = told (line_program_of m) (λ p. line_list_text (lines_of p.subsections))

-- ---- files

-- the bytes of a digest in hex digits, behind a space where there are any
abbrev pub digest_text : List ℕ → List ℕ
digest_text [] = []
digest_text (b ∷ bs) = codes " " ++ flat_map (hex 2) (b ∷ bs)

abbrev pub checksum_text : Checksum → List ℕ
checksum_text absent = codes "none"
checksum_text (md5 b) = codes "md5" ++ digest_text b
checksum_text (sha1 b) = codes "sha1" ++ digest_text b
checksum_text (sha256 b) = codes "sha256" ++ digest_text b

-- the line of a file: the offset of its name, and its checksum
unfoldable pub file_text : FileOf → List ℕ
file_text f = codes "file " ++ decimal f.name ++ codes " " ++ checksum_text f.checksum ++ codes "\n"

abbrev pub file_list_text : Left FileOf → List ℕ
file_list_text left = flat_map file_text left.items ++ fault_text left.fault

unfoldable pub files_of_text : ModuleBytes → List ℕ
files_of_text m = told (line_program_of m) (λ p. file_list_text (files_of p.checksums))

-- ---- exports

abbrev pub export_kind_text : CrossModuleExport → List ℕ
export_kind_text x = if is_id x then codes "id " else codes "type "

-- the line of an export
unfoldable pub export_text : CrossModuleExport → List ℕ
export_text x = codes "export " ++ export_kind_text x ++ hex 8 (local_of x) ++ codes " " ++ hex 8 (global_number_of x) ++ codes "\n"

abbrev pub export_list_text : Left CrossModuleExport → List ℕ
export_list_text left = flat_map export_text left.items ++ fault_text left.fault

unfoldable pub exports_of_text : ModuleBytes → List ℕ
exports_of_text m = told (exports_of m) (λ xs. export_list_text (record { items = map export_of xs; fault = None }))

-- ---- imports

-- the line of what an index refers to: the offset of the module's name, and the number that is local to it
unfoldable pub reference_text : Reference → List ℕ
reference_text r = codes "import " ++ decimal r.name ++ codes " " ++ hex 8 r.local ++ codes "\n"

unfoldable pub import_of_text : ℕ → ModuleBytes → List ℕ
import_of_text i m = told (imports_of m >>= reference_of i) reference_text

-- ---- inlined functions

-- the line of an inlined function
unfoldable pub inlinee_text : InlineeEntry → List ℕ
inlinee_text x = codes "inlinee " ++ hex 8 x.index ++ codes "\n"

-- the line of a site: its symbol's index, and the id of the function
unfoldable pub site_text : ℕ → ℕ → List ℕ
site_text index id = codes "site " ++ hex 8 index ++ codes " " ++ hex 8 id ++ codes "\n"

-- the line records of a site with these annotations, in a procedure with this offset; none where no procedure is before it
abbrev pub site_lines : Option PdbInternalSectionOffset → List ℕ → Option InlineeEntry → Left LineInfo
site_lines None annotations listed = ended
site_lines (Some parent) annotations listed = lines_of_site parent annotations listed

-- what a symbol is here: a procedure with its offset, a site with its function's id and its annotations, or another one, which is passed over
pub data Here : Type 0 where
  at_procedure : (offset : PdbInternalSectionOffset) → Here
  at_site : (id : ℕ) (annotations : List ℕ) → Here
  passed : Here

abbrev pub here : Result Data Error → Here
here (Ok (Procedure s)) = at_procedure s.offset
here (Ok (InlineSite s)) = at_site s.inlinee.0 s.annotations
here r = passed

-- a fault's line, behind which nothing stands, or the rest
abbrev pub unless_fault : Option Error → List ℕ → List ℕ
unless_fault None rest = rest
unless_fault (Some e) rest = error_text e

-- the lines of records, and then the rest
abbrev pub with_lines : Left LineInfo → List ℕ → List ℕ
with_lines left rest = flat_map line_text left.items ++ unless_fault left.fault rest

-- a symbol, and then the rest behind it, by the last procedure so far; `listed` gives the inlined function of an id
abbrev pub behind_symbol : (ℕ → Option InlineeEntry) → Option PdbInternalSectionOffset → ℕ → Here → (Option PdbInternalSectionOffset → List ℕ) → List ℕ
behind_symbol listed parent index (at_procedure offset) rest = rest (Some offset)
behind_symbol listed parent index (at_site id annotations) rest = site_text index id ++ with_lines (site_lines parent annotations (listed id)) (rest parent)
behind_symbol listed parent index passed rest = rest parent

-- the sites among the symbols that are left, each with its records, and then the fault of the list
abbrev pub sites_text : (ℕ → Option InlineeEntry) → Option PdbInternalSectionOffset → List Entry → Option Error → List ℕ
sites_text listed parent [] fault = fault_text fault
sites_text listed parent (s ∷ ss) fault = behind_symbol listed parent s.index (here (record_at s.bytes)) (λ p. sites_text listed p ss fault)

-- the sites of a module
unfoldable pub sites_of_text : (ℕ → Option InlineeEntry) → ModuleBytes → List ℕ
sites_of_text listed m = told (symbols_of m) (λ left. sites_text listed None left.items left.fault)

-- the whole list of inlined functions, and behind it the sites
abbrev pub inlinee_list_text : ModuleBytes → Left InlineeEntry → List ℕ
inlinee_list_text m left = flat_map inlinee_text left.items ++ unless_fault left.fault (sites_of_text (inlinee_with left.items) m)

unfoldable pub inlinees_of_text : ModuleBytes → List ℕ
inlinees_of_text m = told (inlinees_of m) (inlinee_list_text m)
