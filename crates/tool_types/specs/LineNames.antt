-- The names at the ends of lines: those of types, and those of functions that are inlined.
use Rattle.std.specs.Prelude.{ℕ, Bool, ◌==◌, ◌||◌, if◌then◌else◌, List, [], ◌++◌, codes, Option, Some, None, option_and_then, Result, Ok}
use Rattle.pdb.specs.Data.{Data}
use Rattle.pdb.specs.Data.Data.{Constant, DataItem, InlineSite, Local, MultiRegisterVariable, Procedure, RegisterRelative, RegisterVariable, ThreadStorage, UserDefinedType}
use Rattle.pdb.specs.Error.{Error}
use Rattle.pdb.specs.Items.{ItemEntry, item_with}
use Rattle.pdb.specs.Qualified.{Qualified}
use Rattle.pdb_base.specs.declared.index.TypeIndex.{TypeIndex}
use Rattle.pdb_records.specs.RecordSays.{Says}
use Rattle.pdb_records.specs.RecordSays.Says.{BasePointerRelative, FileStatic, RegisterRelativeOld}
use Rattle.pdb_records.specs.declared.machine.Machine.{Machine}
use Rattle.pdb_resolve.specs.AcrossModules.{names_by}
use Rattle.pdb_resolve.specs.FileParts.{items_where}
use Rattle.pdb_text.specs.OneLine.{one_line}
use Rattle.pdb_types.specs.FullTypes.{definitions_among, first_definition}
use Rattle.pdb_types.specs.FunctionIds.{function_type_in}
use Rattle.pdb_types.specs.TypeTexts.{shown_name}
use Rattle.tool_types.specs.QualifiedTexts.{behind_qualified}

-- what lines have names from
pub record Names : Type 0 where
  -- the name of a function, by the id of an inlined call, and its type
  pub called : ℕ → Option Qualified
  pub called_type : ℕ → Option TypeIndex
  -- the type of a function, by its id
  pub function_type : ℕ → Option TypeIndex
  -- the name of a type, by its index
  pub type_name : ℕ → List ℕ

-- the type of the function of an id
abbrev pub type_of_item : Option ItemEntry → Option TypeIndex
type_of_item None = None
type_of_item (Some x) = function_type_in x.bytes

abbrev pub type_of_function : List ItemEntry → ℕ → Option TypeIndex
type_of_function ids id = type_of_item (item_with ids id)

-- names by ids and types, the first definition of each key, and the ids that the whole file knows
abbrev pub names_from : List ItemEntry → List ItemEntry → (List ℕ → Option ℕ) → (ℕ → Option ℕ) → Names
names_from ids types first global = record {
  called = names_by ids types global;
  called_type = λ id. option_and_then (type_of_function ids) (global id);
  function_type = type_of_function ids;
  type_name = shown_name types first;
}

-- what the names at the ends of lines are found by in all modules of a file, and the machine of its header
pub record FileTables : Type 0 where
  pub ids : List ItemEntry
  pub types : List ItemEntry
  pub first : List ℕ → Option ℕ
  pub header : Option Machine

-- those of streams of ids and types, where they are there
abbrev pub tables_of : Option (List ℕ) → Option (List ℕ) → Option Machine → FileTables
tables_of ids types header = record {
  ids = items_where ids;
  types = items_where types;
  first = first_definition (definitions_among (items_where types));
  header = header;
}

-- the names by these, and by the ids that the whole file knows
abbrev pub names_by_tables : FileTables → (ℕ → Option ℕ) → Names
names_by_tables t global = names_from t.ids t.types t.first global

-- a procedure of one of these kinds has an id instead of its type
abbrev pub has_id : ℕ → Bool
has_id kind = kind == 0x1146 || (kind == 0x1147 || kind == 0x1156)

abbrev pub procedure_type : Names → ℕ → TypeIndex → Option TypeIndex
procedure_type names kind index = if has_id kind then names.function_type index.0 else Some index

-- the type of what a record of a kind declares
abbrev pub declared_type : Names → ℕ → Data → Option TypeIndex
declared_type names kind (Procedure s) = procedure_type names kind s.type_index
declared_type names kind (DataItem global managed type_index offset name) = Some type_index
declared_type names kind (ThreadStorage global type_index offset name) = Some type_index
declared_type names kind (Local type_index flags name) = Some type_index
declared_type names kind (RegisterVariable type_index register name) = Some type_index
declared_type names kind (RegisterRelative offset type_index register name) = Some type_index
declared_type names kind (Constant managed type_index value name) = Some type_index
declared_type names kind (UserDefinedType type_index name) = Some type_index
declared_type names kind (MultiRegisterVariable type_index registers) = Some type_index
declared_type names kind (InlineSite s) = names.called_type s.inlinee.0
declared_type names kind d = None

-- that of a further record
abbrev pub further_type : Result Says Error → Option TypeIndex
further_type (Ok (BasePointerRelative offset type_index name)) = Some type_index
further_type (Ok (RegisterRelativeOld offset type_index register name)) = Some type_index
further_type (Ok (FileStatic type_index module_file flags name)) = Some type_index
further_type r = None

-- the name of a type behind a colon; index 0 is no type
unfoldable pub typed_text : Names → Option TypeIndex → List ℕ
typed_text names None = []
typed_text names (Some index) = if index.0 == 0 then [] else codes ": " ++ one_line (names.type_name index.0)

-- how a line of something with a type ends
abbrev pub typed_end : Names → Option TypeIndex → List ℕ
typed_end names index = typed_text names index ++ codes "\n"

-- how a line of an inlined call ends, by the id of the call: with the function's name, and that of its type
unfoldable pub call_end : Names → ℕ → List ℕ
call_end names id = behind_qualified (names.called id) ++ typed_end names (names.called_type id)
