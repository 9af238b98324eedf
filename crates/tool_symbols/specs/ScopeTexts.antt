-- The text of `scopes` of a module.
use Rattle.std.specs.Prelude.{ℕ, ◌+◌, Bool, if◌then◌else◌, List, [], ◌∷◌, ◌++◌, length, codes, Option, None, Result, Ok, Err}
use Rattle.std.specs.Fmt.{decimal}
use Rattle.pdb.specs.Error.{Error}
use Rattle.pdb.specs.Left.{Left}
use Rattle.pdb.specs.PdbInternalSectionOffset.{PdbInternalSectionOffset}
use Rattle.pdb.specs.Data.{Data}
use Rattle.pdb.specs.Data.Data.{Procedure, Block, Thunk, SeparatedCode, InlineSite, DataItem, ThreadStorage, Label, Local, RegisterVariable, RegisterRelative}
use Rattle.pdb.specs.Forms.{kind_at, record_at}
use Rattle.pdb.specs.SymbolList.{Entry}
use Rattle.pdb.specs.ModuleStream.{ModuleBytes, symbols_of}
use Rattle.pdb_records.specs.RecordReading.{further_at}
use Rattle.pdb_records.specs.RecordSays.{Says}
use Rattle.pdb_records.specs.RecordSays.Says.{BasePointerRelative, FileStatic, ManagedProcedure, RegisterRelativeOld}
use Rattle.pdb_records.specs.declared.machine.Machine.{Machine}
use Rattle.tool_symbols.specs.Depth.{blanks}
use Rattle.tool_output.specs.ErrorLine.{fault_line, told}
use Rattle.tool_types.specs.LineNames.{Names, declared_type, further_type, typed_end}
use Rattle.tool_fields.specs.ModuleMachines.{module_machine}
use Rattle.tool_types.specs.QualifiedTexts.{behind_qualified}
use Rattle.tool_symbols.specs.ScopeFrames.{innermost, open_at, open_behind}
use Rattle.tool_symbols.specs.SymbolTexts.{lacks_layout}
use Rattle.tool_fields.specs.Values.{place_text, behind_blank}
use Rattle.tool_fields.specs.ValueTexts.{register_on}
use Rattle.tool_symbols.specs.VariablePlaces.{base_pointer, behind_lines, further_parameter_in, is_of_ranges, memory_text, parameter_in}
use Rattle.tool_symbols.specs.declared.scope_frames.Bases.{Bases}

-- a word, where code stands, how long it is, its name, and the line's end
abbrev pub code_text : List ℕ → PdbInternalSectionOffset → ℕ → List ℕ → List ℕ → List ℕ
code_text word offset len name end = word ++ codes " " ++ place_text offset ++ codes " " ++ decimal len ++ behind_blank name ++ end

-- a word, a place, a name, and the line's end
abbrev pub placed_text : List ℕ → PdbInternalSectionOffset → List ℕ → List ℕ → List ℕ
placed_text word offset name end = word ++ codes " " ++ place_text offset ++ behind_blank name ++ end

-- a word, a name, and the line's end
abbrev pub named_text : List ℕ → List ℕ → List ℕ → List ℕ
named_text word name end = word ++ behind_blank name ++ end

-- a word, where a variable is, its name, and the line's end
abbrev pub held_text : List ℕ → List ℕ → List ℕ → List ℕ → List ℕ
held_text word place name end = word ++ codes " " ++ place ++ behind_blank name ++ end

-- the line of what a further record says, at a depth, where it has one, with this end
abbrev pub further_says : Option Machine → ℕ → List ℕ → Result Says Error → List ℕ
further_says machine depth end (Ok (BasePointerRelative offset type_index name)) = blanks depth ++ held_text (codes "relative") (memory_text (base_pointer machine) offset) name end
further_says machine depth end (Ok (RegisterRelativeOld offset type_index register name)) = blanks depth ++ held_text (codes "relative") (memory_text (register_on machine register) offset) name end
further_says machine depth end (Ok (FileStatic type_index module_file flags name)) = blanks depth ++ named_text (codes "local") name end
further_says machine depth end (Ok (ManagedProcedure s)) = blanks depth ++ code_text (codes "procedure") s.offset s.len s.name end
further_says machine depth end r = []

abbrev pub further_line : Names → Option Machine → ℕ → Result Says Error → List ℕ
further_line names machine depth r = further_says machine depth (typed_end names (further_type r)) r

-- the line of what has a place, or of a variable, at a depth, with this end
abbrev pub data_line : Option Machine → ℕ → List ℕ → Data → List ℕ
data_line machine depth end (DataItem global managed type_index offset name) = blanks depth ++ placed_text (codes "data") offset name end
data_line machine depth end (ThreadStorage global type_index offset name) = blanks depth ++ placed_text (codes "thread") offset name end
data_line machine depth end (Label offset flags name) = blanks depth ++ placed_text (codes "label") offset name end
data_line machine depth end (Local type_index flags name) = blanks depth ++ named_text (codes "local") name end
data_line machine depth end (RegisterVariable type_index register name) = blanks depth ++ held_text (codes "register") (register_on machine register) name end
data_line machine depth end (RegisterRelative offset type_index register name) = blanks depth ++ held_text (codes "relative") (memory_text (register_on machine register) offset) name end
data_line machine depth end d = []

-- the line of what a record says, at a depth, where it has one, with this end
abbrev pub says_line : Names → Option Machine → ℕ → List ℕ → Data → List ℕ
says_line names machine depth end (Procedure s) = blanks depth ++ code_text (codes "procedure") s.offset s.len s.name end
says_line names machine depth end (Block parent stop len offset name) = blanks depth ++ code_text (codes "block") offset len name end
says_line names machine depth end (Thunk s) = blanks depth ++ code_text (codes "thunk") s.offset s.len s.name end
says_line names machine depth end (SeparatedCode s) = blanks depth ++ code_text (codes "separated") s.offset s.len [] end
says_line names machine depth end (InlineSite s) = blanks depth ++ (codes "inlined" ++ behind_qualified (names.called s.inlinee.0) ++ end)
says_line names machine depth end d = data_line machine depth end d

-- that of a record that can't be parsed: one of a kind without a layout is read as a further record
abbrev pub unread_line : Names → Option Machine → ℕ → List ℕ → Error → List ℕ
unread_line names machine depth b e = if lacks_layout e then further_line names machine depth (further_at b) else []

-- the line of a record of these bytes; its end has the name of what it declares
abbrev pub scope_line : Names → Option Machine → ℕ → List ℕ → Result Data Error → List ℕ
scope_line names machine depth b (Ok d) = says_line names machine depth (typed_end names (declared_type names (kind_at b) d)) d
scope_line names machine depth b (Err e) = unread_line names machine depth b e

-- whether the variable that a record tells is a parameter; none for other records
abbrev pub unread_parameter : List ℕ → Error → Option Bool
unread_parameter b e = if lacks_layout e then further_parameter_in (further_at b) else None

abbrev pub parameter_by : List ℕ → Result Data Error → Option Bool
parameter_by b (Ok d) = parameter_in (Ok d)
parameter_by b (Err e) = unread_parameter b e

-- the variable behind a record: that before it, where it is a record of a range
abbrev pub variable_behind : Option Bool → List ℕ → Option Bool
variable_behind variable b = if is_of_ranges (kind_at b) then variable else parameter_by b (record_at b)

-- piece: scope_lines
-- the lines of a symbol in these scopes: those of a range stand one deeper, behind its variable
abbrev pub symbol_lines : Names → Option Machine → List Bases → Option Bool → List ℕ → List ℕ
symbol_lines names machine around variable b =
    if is_of_ranges (kind_at b) then behind_lines machine (innermost around) (length around + 1) variable b else scope_line names machine (length around) b (record_at b)

-- the lines of symbols behind records that leave these scopes open, the last of which told this variable
abbrev pub scope_lines : Names → Option Machine → List Bases → Option Bool → List Entry → List ℕ
scope_lines names machine around variable [] = []
scope_lines names machine around variable (s ∷ ss) =
    symbol_lines names machine (open_at around (kind_at s.bytes)) variable s.bytes
    ++ scope_lines names machine (open_behind around (kind_at s.bytes) ss) (variable_behind variable s.bytes) ss

-- end

-- the lines of the symbols that are left, and then that of the fault
abbrev pub scopes_left : Names → Option Machine → List Bases → Option Bool → Left Entry → List ℕ
scopes_left names machine around variable left = scope_lines names machine around variable left.items ++ fault_line left.fault

-- those of a module, on its machine
abbrev pub module_scopes : Names → Option Machine → Left Entry → List ℕ
module_scopes names header left = scopes_left names (module_machine header left.items) [] None left

-- those of a module, or their error; the machine of the header counts where the symbols name none
unfoldable pub scopes_text : Names → Option Machine → ModuleBytes → List ℕ
scopes_text names header m = told (symbols_of m) (module_scopes names header)
