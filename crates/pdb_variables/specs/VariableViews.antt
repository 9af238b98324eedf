-- What contracts see of variables at a place.
use Rattle.std.specs.Prelude.{ℕ, Bool, List, [], ◌∷◌, Option, Some, None}
use Rattle.std.specs.Cmp.Lexicographic.{slice_cmp}
use Rattle.std.specs.Option.{option_map}
use Rattle.std.specs.Ordering.{is_lt, nat_cmp}
use Rattle.pdb.specs.Inlinees.{InlineeEntry, inlinee_with}
use Rattle.pdb.specs.SymbolList.{Entry}
use Rattle.pdb.specs.Text.{name_bytes}
use Rattle.pdb.specs.Views.{symbols_left}
use Rattle.pdb_symbols.specs.declared.table.SymbolIter.{SymbolIter}
use Rattle.pdb_records.specs.RecordViews.{gaps_in}
use Rattle.pdb_variables.specs.VariableRecords.{Declares, Extent, Place}
use Rattle.pdb_variables.specs.VariableRecords.Extent.{Nothing, Everywhere, Within}
use Rattle.pdb_variables.specs.VariableRecords.Place.{Nowhere, Whole, Parts, At, Value}
use Rattle.pdb_variables.specs.Variables.{Variable}
use Rattle.pdb_variables.specs.declared.locations.Extent.{Extent as Read}
use Rattle.pdb_variables.specs.declared.locations.Extent.TheVariants as read
use Rattle.pdb_variables.specs.declared.locations.Location.{Location}
use Rattle.pdb_variables.specs.declared.locations.Location.TheVariants as «in»
use Rattle.pdb_code.specs.Listed.{shown_procedure}
use Rattle.pdb_places.specs.Pieces.{Code}
use Rattle.pdb_variables.specs.declared.open_scopes.CodePlace.{CodePlace}
use Rattle.pdb_variables.specs.declared.told_again.VariableKey.{VariableKey}
use Rattle.pdb_variables.specs.declared.variable_records.Declared.{Declared}
use Rattle.pdb_variables.specs.declared.variables.VariableAt.{VariableAt}

abbrev pub shown_extent : Read → Extent
shown_extent read.Nowhere = Nothing
shown_extent read.Everywhere = Everywhere
shown_extent (read.Within range gaps) = Within range (gaps_in gaps)

abbrev pub shown_declared : Declared → Declares
shown_declared d = record { kind = d.kind; type_index = d.type_index; name = name_bytes d.name; held = d.held }

abbrev pub shown_location : Location → Place
shown_location «in».Nowhere = Nowhere
shown_location («in».Whole storage) = Whole storage
shown_location («in».Parts parts) = Parts parts.items
shown_location («in».At offset) = At offset
shown_location («in».Value value) = Value value

abbrev pub shown_variable : VariableAt → Variable
shown_variable v = record { owner = v.owner; kind = v.kind; type_index = v.type_index; name = name_bytes v.name; place = shown_location v.location }

-- the key of a variable as one list of numbers, and the order of keys
abbrev pub key_list : VariableKey → List ℕ
key_list k = k.type_index ∷ k.name.now

abbrev pub goes_before : VariableKey → VariableKey → Bool
goes_before a b = is_lt (slice_cmp nat_cmp (key_list a) (key_list b))

-- the procedure at a place, and the inlined functions that are listed
abbrev pub procedure_of_place : CodePlace → Option Code
procedure_of_place p = option_map shown_procedure p.procedure

abbrev pub listed_by : CodePlace → ℕ → Option InlineeEntry
listed_by p = inlinee_with p.known.now

-- the symbols that are left; none without an iterator
abbrev pub records_left : Option SymbolIter → List Entry
records_left None = []
records_left (Some it) = (symbols_left it).items
