-- The text of `symbols`.
use Rattle.std.specs.Prelude.{ℕ, Bool, true, false, if◌then◌else◌, List, [], ◌∷◌, ◌++◌, drop, flat_map, codes, Option, Some, None, Result, Ok, Err}
use Rattle.std.specs.Fmt.{decimal}
use Rattle.pdb.specs.Error.{Error}
use Rattle.pdb.specs.Error.TheVariants.{UnimplementedSymbolKind}
use Rattle.pdb.specs.Refusal.{number_of}
use Rattle.pdb.specs.Left.{Left}
use Rattle.pdb.specs.Data.{Data, name_of}
use Rattle.pdb.specs.Data.Data.{InlineSite}
use Rattle.pdb.specs.Forms.{kind_at, record_at}
use Rattle.pdb.specs.SymbolList.{Entry, symbols_from}
use Rattle.pdb.specs.ModuleStream.{ModuleBytes, symbols_of}
use Rattle.pdb_records.specs.RecordReading.{further_at}
use Rattle.pdb_records.specs.RecordSays.{Says}
use Rattle.pdb_records.specs.declared.machine.Machine.{Machine}
use Rattle.pdb_text.specs.Digits.{hex}
use Rattle.tool_symbols.specs.Depth.{blanks, depth_at, depth_behind}
use Rattle.tool_output.specs.ErrorLine.{fault_line, told}
use Rattle.tool_types.specs.LineNames.{Names, declared_type, typed_text}
use Rattle.tool_types.specs.QualifiedTexts.{behind_qualified}
use Rattle.tool_fields.specs.Values.{behind_blank}
use Rattle.tool_fields.specs.ValueTexts.{kind_text}
use Rattle.tool_fields.specs.FieldTexts.{fields_text}
use Rattle.tool_fields.specs.ModuleMachines.{module_machine}
use Rattle.tool_records.specs.RecordTexts.{says_text}
use Rattle.tool_printing.specs.Printing.{mark}

-- a name behind a blank, where there is one that isn't empty
abbrev pub name_text : Option (List ℕ) → List ℕ
name_text None = []
name_text (Some name) = behind_blank name

-- the kind has no layout that is read: no damage
abbrev pub lacks_layout : Error → Bool
lacks_layout (UnimplementedSymbolKind kind) = true
lacks_layout e = false

-- the number of an error behind a mark, where it is damage
abbrev pub damage_text : Error → List ℕ
damage_text e = if lacks_layout e then [] else mark ++ codes " error " ++ decimal (number_of e)

-- an error, and a record's bytes behind the kind
abbrev pub unread_text : List ℕ → Error → List ℕ
unread_text b e = damage_text e ++ codes " bytes=" ++ flat_map (hex 2) (drop 2 b)

-- a further record, or its error
abbrev pub further_text : Option Machine → List ℕ → Result Says Error → List ℕ
further_text machine b (Ok says) = says_text machine says
further_text machine b (Err e) = unread_text b e

-- the name of what a record tells; that of the function of an inlined call
abbrev pub declared_name : Names → Data → List ℕ
declared_name names (InlineSite s) = behind_qualified (names.called s.inlinee.0)
declared_name names d = name_text (name_of d)

-- a record: its fields, its name, and the name of its type. One of a kind without a layout is read as a further record
abbrev pub parsed_text : Names → Option Machine → List ℕ → Result Data Error → List ℕ
parsed_text names machine b (Ok d) = fields_text machine b d ++ declared_name names d ++ typed_text names (declared_type names (kind_at b) d)
parsed_text names machine b (Err e) = if lacks_layout e then further_text machine b (further_at b) else unread_text b e

abbrev pub record_text : Names → Option Machine → List ℕ → List ℕ
record_text names machine b = parsed_text names machine b (record_at b)

-- the line of a symbol at a depth
unfoldable pub symbol_line : Names → Option Machine → ℕ → Entry → List ℕ
symbol_line names machine depth s = blanks depth ++ hex 8 s.index ++ codes " " ++ kind_text (kind_at s.bytes) ++ record_text names machine s.bytes ++ codes "\n"

-- the lines of symbols behind records that leave this depth
abbrev pub symbol_lines : Names → Option Machine → ℕ → List Entry → List ℕ
symbol_lines names machine depth [] = []
symbol_lines names machine depth (s ∷ ss) = symbol_line names machine (depth_at depth (kind_at s.bytes)) s ++ symbol_lines names machine (depth_behind depth (kind_at s.bytes)) ss

-- the lines of the symbols that are left, and then that of the fault
abbrev pub symbol_list_text : Names → Option Machine → ℕ → Left Entry → List ℕ
symbol_list_text names machine depth left = symbol_lines names machine depth left.items ++ fault_line left.fault

-- those of a module, on its machine
abbrev pub module_symbols_text : Names → Option Machine → Left Entry → List ℕ
module_symbols_text names header left = symbol_list_text names (module_machine header left.items) 0 left

-- those of a module, or their error; the machine of the header counts where the symbols name none
unfoldable pub symbols_text : Names → Option Machine → ModuleBytes → List ℕ
symbols_text names header m = told (symbols_of m) (module_symbols_text names header)

-- those of the stream of global symbols
unfoldable pub global_symbols_text : Names → Option Machine → List ℕ → List ℕ
global_symbols_text names header b = symbol_list_text names header 0 (symbols_from b 0)
