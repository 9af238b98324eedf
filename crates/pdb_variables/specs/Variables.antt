-- The variables that are in scope at a place, whose they are, and where each is.
use Rattle.std.specs.Prelude.{ℕ, suc, nat_lt, drop, ◌==◌, ◌&&◌, Bool, true, false, not, if◌then◌else◌, List, [], ◌∷◌, ◌++◌, length, Option, Some, None, Result, Ok, Err, find, filter_map}
use Rattle.std.specs.List.{list_all}
use Rattle.std.specs.Option.{is_some, option_and_then, option_to_list}
use Rattle.std.specs.Cmp.Lexicographic.{slice_cmp}
use Rattle.std.specs.Ordering.{is_eq, nat_cmp}
use Rattle.pdb.specs.Data.{Data}
use Rattle.pdb.specs.Data.Data.{InlineSite, Block, SeparatedCode}
use Rattle.pdb.specs.Error.{Error}
use Rattle.pdb.specs.Forms.{kind_at, record_at}
use Rattle.pdb.specs.Inlinees.{InlineeEntry, inlinee_with}
use Rattle.pdb.specs.ModuleStream.{ModuleBytes}
use Rattle.pdb.specs.PdbInternalSectionOffset.{PdbInternalSectionOffset}
use Rattle.pdb.specs.Scopes.{starts_of, ends_of}
use Rattle.pdb.specs.SymbolList.{Entry}
use Rattle.pdb_base.specs.declared.index.TypeIndex.{TypeIndex}
use Rattle.pdb_records.specs.RecordReading.{further_at}
use Rattle.pdb_records.specs.RecordSays.{Says}
use Rattle.pdb_records.specs.RecordSays.Says.{With}
use Rattle.pdb_code.specs.Kept.{site_of}
use Rattle.pdb.specs.LineCover.{bytes_cover}
use Rattle.pdb_code.specs.ModuleCode.{Call, call_in, function_at, inlinees_in, procedure_at, symbols_in}
use Rattle.pdb_places.specs.Pieces.{Code}
use Rattle.pdb_variables.specs.VariableRecords.{Declares, Place, bases_at, declared_at, held_place, is_in_one, is_separated, key_of, no_bases, told_key}
use Rattle.pdb_variables.specs.declared.frame_bases.Bases.{Bases}
use Rattle.pdb_variables.specs.declared.variable_records.VariableKind.{VariableKind}

-- ---- the records of the function

-- the records behind that of an index; none where it starts no scope
abbrev pub records_behind : ℕ → List Entry → List Entry
records_behind i [] = []
records_behind i (s ∷ ss) = if s.index == i then (if starts_of (kind_at s.bytes) then ss else []) else records_behind i ss

abbrev pub records_if : Option ℕ → List Entry → List Entry
records_if None ss = []
records_if (Some i) ss = records_behind i ss

-- those behind the record of the function at a place
abbrev pub records_at : PdbInternalSectionOffset → ModuleBytes → List Entry
records_at q m = records_if (function_at q m) (symbols_in m)

-- ---- scopes

-- a scope in the function's own: the record that starts it, and the function's records before that one, the nearest first
pub record Scope : Type 0 where
  pub start : Entry
  pub before : List Entry

-- the end of the innermost scope; of the function's own, where no other is left
abbrev pub left_scope : List Scope → Option (List Scope)
left_scope [] = None
left_scope (t ∷ scopes) = Some scopes

abbrev pub behind_one : Entry → List Entry → List Scope → Option (List Scope)
behind_one s before scopes =
    if ends_of (kind_at s.bytes) then left_scope scopes
    else if starts_of (kind_at s.bytes) then Some (record { start = s; before = before } ∷ scopes)
    else Some scopes

-- the scopes that are left open by these of the function's records, the nearest first; of the scopes the innermost first. None once the function's own has ended
abbrev pub opened : List Entry → Option (List Scope)
opened [] = Some []
opened (s ∷ before) = option_and_then (behind_one s before) (opened before)

-- the innermost is the function's own
abbrev pub is_direct : Option (List Scope) → Bool
is_direct (Some []) = true
is_direct scopes = false

-- ---- the frame

abbrev pub bases_or : Option Bases → Bases → Bases
bases_or None other = other
bases_or (Some bases) other = bases

-- the registers of the first frame's record that stands directly in the function's scope, behind these records
abbrev pub bases_from : List Entry → List Entry → Bases
bases_from before [] = no_bases
bases_from before (s ∷ ss) = bases_or (if is_direct (opened before) then bases_at s else None) (bases_from (s ∷ before) ss)

-- those of the innermost separated code among eight scopes, by the function's records behind its start; else those of the function
abbrev pub bases_in : List Entry → List Scope → Bases
bases_in records [] = bases_from [] records
bases_in records (t ∷ scopes) = if is_separated (kind_at t.start.bytes) && nat_lt (length scopes) 8 then bases_from [] (drop (suc (length t.before)) records) else bases_in records scopes

-- ---- what is told twice

-- none of these is a site of an inlined function
abbrev pub is_outside_sites : List Scope → Bool
is_outside_sites scopes = list_all (λ t. not (is_some (site_of t.start))) scopes

abbrev pub told_in : Option (List Scope) → Entry → Option (List ℕ)
told_in None s = None
told_in (Some scopes) s = if is_outside_sites scopes then option_and_then told_key (declared_at s) else None

-- the types and names of the variables with ranges that stand in the function's scope, outside its inlined sites
abbrev pub told_from : List Entry → List Entry → List (List ℕ)
told_from before [] = []
told_from before (s ∷ ss) = option_to_list (told_in (opened before) s) ++ told_from (s ∷ before) ss

abbrev pub is_known_by : List ℕ → List ℕ → Bool
is_known_by key k = is_eq (slice_cmp nat_cmp k key)

abbrev pub is_told : List (List ℕ) → List ℕ → Bool
is_told told key = is_some (find (is_known_by key) told)

-- it is in one storage, and is told again by one with ranges
abbrev pub is_told_again : (List ℕ → Bool) → Declares → Bool
is_told_again told d = is_in_one d.held && told (key_of d)

-- ---- the variables

-- a variable: the number of the inlined call whose it is, none for the function's; what it is, and where
pub record Variable : Type 0 where
  pub owner : Option ℕ
  pub kind : VariableKind
  pub type_index : TypeIndex
  pub name : List ℕ
  pub place : Place

-- a scope in which members of a variable are named alone has all code around it
abbrev pub enters_further : Result Says Error → Bool
enters_further (Ok (With parent end len offset name)) = true
enters_further r = false

module _ (q : PdbInternalSectionOffset) (listed : ℕ → Option InlineeEntry) (procedure : Option Code) where
  abbrev pub call_by : Option Code → Entry → Option Call
  call_by None s = None
  call_by (Some c) s = call_in q listed c s

  -- the inlined call of a site at the place
  abbrev pub call_of_site : Entry → Option Call
  call_of_site s = call_by procedure s

  abbrev pub has_call : Entry → Bool
  has_call s = is_some (call_of_site s)

  abbrev pub enters_by : Entry → Result Data Error → Bool
  enters_by s (Ok (Block parent end len offset name)) = bytes_cover q offset len
  enters_by s (Ok (SeparatedCode c)) = bytes_cover q c.offset c.len
  enters_by s (Ok (InlineSite c)) = has_call s
  enters_by s (Ok d) = false
  enters_by s (Err e) = enters_further (further_at s.bytes)

  -- the scope that a record starts has the place
  abbrev pub enters : Entry → Bool
  enters s = enters_by s (record_at s.bytes)

  abbrev pub are_entered : List Scope → Bool
  are_entered scopes = list_all (λ t. enters t.start) scopes

  -- how many of the function's records before one are sites with a call
  abbrev pub calls_among : List Entry → ℕ
  calls_among before = length (filter_map call_of_site before)

  -- the number of the call of the innermost site
  abbrev pub owner_of : List Scope → Option ℕ
  owner_of [] = None
  owner_of (t ∷ scopes) = if has_call t.start then Some (calls_among t.before) else owner_of scopes

  module _ (told : List ℕ → Bool) where
    -- a variable of an owner in a frame, before these records
    abbrev pub variable_of : Bases → Option ℕ → List Entry → Declares → Option Variable
    variable_of bases owner ss d = if is_told_again told d then None else Some (record { owner = owner; kind = d.kind; type_index = d.type_index; name = d.name; place = held_place q bases ss d.held })

    -- that of one of these records of the function, in these scopes
    abbrev pub variable_in : List Entry → Option (List Scope) → Entry → List Entry → Option Variable
    variable_in records None s ss = None
    variable_in records (Some scopes) s ss = if are_entered scopes then option_and_then (variable_of (bases_in records scopes) (owner_of scopes) ss) (declared_at s) else None

    -- the variables of the records behind some
    abbrev pub variables_from : List Entry → List Entry → List Entry → List Variable
    variables_from records before [] = []
    variables_from records before (s ∷ ss) = option_to_list (variable_in records (opened before) s ss) ++ variables_from records (s ∷ before) ss

-- those of a function's records
abbrev pub variables_among : PdbInternalSectionOffset → (ℕ → Option InlineeEntry) → Option Code → List Entry → List Variable
variables_among q listed procedure ss = variables_from q listed procedure (is_told (told_from [] ss)) ss [] ss

-- the variables in scope at a place, in the order of their records
unfoldable pub variables_at : PdbInternalSectionOffset → ModuleBytes → List Variable
variables_at q m = variables_among q (inlinee_with (inlinees_in m)) (procedure_at q m) (records_at q m)
