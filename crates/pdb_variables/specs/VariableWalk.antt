-- Words of private functions: what is kept while a function's records are passed.
use Rattle.std.specs.Prelude.{ℕ, zero, suc, ◌-◌, ◌==◌, ◌&&◌, ◌||◌, nat_lt, Bool, true, if◌then◌else◌, List, [], ◌∷◌, ◌++◌, length, filter_map, Option, Some, None}
use Rattle.std.specs.Option.{is_some, option_and_then, option_to_list}
use Rattle.pdb.specs.Forms.{kind_at}
use Rattle.pdb.specs.Inlinees.{InlineeEntry}
use Rattle.pdb.specs.PdbInternalSectionOffset.{PdbInternalSectionOffset}
use Rattle.pdb.specs.Scopes.{starts_of, ends_of}
use Rattle.pdb.specs.SymbolList.{Entry}
use Rattle.pdb_code.specs.Kept.{site_of}
use Rattle.pdb_places.specs.Pieces.{Code}
use Rattle.pdb_variables.specs.VariableRecords.{Place, bases_at, declared_at, is_separated, no_bases, part_of, place_by, ranges_of, stored_at, told_key, whole_of}
use Rattle.pdb_variables.specs.Variables.{Variable, bases_or, enters, has_call, variable_of}
use Rattle.pdb_variables.specs.declared.frame_bases.Bases.{Bases}
use Rattle.pdb_variables.specs.declared.locations.Stored.{Stored}
use Rattle.pdb_variables.specs.declared.locations.VariablePart.{VariablePart}
use Rattle.pdb_variables.specs.declared.open_scopes.OpenScope.{OpenScope}

-- ---- where a variable is of which these parts were found already

abbrev pub place_with : List VariablePart → List Stored → Place
place_with parts ss = place_by (filter_map whole_of ss) (parts ++ filter_map part_of ss)

abbrev pub ranged_with : PdbInternalSectionOffset → ℕ → List VariablePart → List Entry → Place
ranged_with q base parts ss = place_with parts (filter_map (stored_at q base) (ranges_of ss))

-- ---- the frame, by how many scopes are open in the function's

abbrev pub one_deeper : ℕ → ℕ → ℕ
one_deeper kind depth = if starts_of kind then suc depth else depth

abbrev pub bases_ahead : ℕ → List Entry → Bases
bases_ahead depth [] = no_bases
bases_ahead zero (s ∷ ss) = bases_or (bases_at s) (if ends_of (kind_at s.bytes) then no_bases else bases_ahead (one_deeper (kind_at s.bytes) 0) ss)
bases_ahead (suc depth) (s ∷ ss) = bases_ahead (if ends_of (kind_at s.bytes) then depth else one_deeper (kind_at s.bytes) (suc depth)) ss

-- ---- what is told, by how many scopes are open, and how many from the outermost site on

abbrev pub told_one : ℕ → Entry → Option (List ℕ)
told_one within s = if within == 0 then option_and_then told_key (declared_at s) else None

abbrev pub within_more : Bool → ℕ → ℕ
within_more site within = if nat_lt 0 within || site then suc within else 0

abbrev pub within_behind : Entry → ℕ → ℕ
within_behind s within = if starts_of (kind_at s.bytes) then within_more (is_some (site_of s)) within else within

abbrev pub told_ahead : ℕ → ℕ → List Entry → List (List ℕ)
told_ahead depth within [] = []
told_ahead zero within (s ∷ ss) = option_to_list (told_one within s) ++ (if ends_of (kind_at s.bytes) then [] else told_ahead (one_deeper (kind_at s.bytes) 0) (within_behind s within) ss)
told_ahead (suc depth) within (s ∷ ss) =
    option_to_list (told_one within s)
    ++ (if ends_of (kind_at s.bytes) then told_ahead depth (within - 1) ss else told_ahead (one_deeper (kind_at s.bytes) (suc depth)) (within_behind s within) ss)

-- ---- the variables, by the scopes that are open, the innermost first, and how many calls stood before

-- in a frame of these registers
abbrev pub function_scope : Bases → OpenScope
function_scope bases = record { entered = true; owner = None; bases = bases }

abbrev pub innermost : Bases → List OpenScope → OpenScope
innermost bases [] = function_scope bases
innermost bases (o ∷ around) = o

-- the registers in the scope that a record of a kind starts in so many others, before these records
abbrev pub bases_behind : ℕ → ℕ → Bases → List Entry → Bases
bases_behind kind depth bases ss = if is_separated kind && nat_lt depth 8 then bases_ahead 0 ss else bases

-- the scopes behind the end of one; none where it is the function's own
abbrev pub left_open : List OpenScope → Option (List OpenScope)
left_open [] = None
left_open (o ∷ around) = Some around

abbrev pub still_open : Bool → List OpenScope → Option (List OpenScope)
still_open going around = if going then Some around else None

abbrev pub counted : Bool → ℕ → ℕ
counted called calls = if called then suc calls else calls

module _ (q : PdbInternalSectionOffset) (listed : ℕ → Option InlineeEntry) (procedure : Option Code) where
  abbrev pub scope_by : Bool → Bool → ℕ → OpenScope → Bases → OpenScope
  scope_by entering called calls inner bases = record { entered = entering && inner.entered; owner = if called then Some calls else inner.owner; bases = bases }

  -- the scope that a record starts in another one, in a frame of these registers
  abbrev pub scope_of : Entry → ℕ → OpenScope → Bases → OpenScope
  scope_of s calls inner bases = scope_by (enters q listed procedure s) (has_call q listed procedure s) calls inner bases

  abbrev pub scope_in : Entry → List Entry → ℕ → ℕ → OpenScope → OpenScope
  scope_in s ss depth calls inner = scope_of s calls inner (bases_behind (kind_at s.bytes) depth inner.bases ss)

  abbrev pub scopes_behind : Bases → Entry → List Entry → ℕ → List OpenScope → List OpenScope
  scopes_behind bases s ss calls around = if starts_of (kind_at s.bytes) then scope_in s ss (length around) calls (innermost bases around) ∷ around else around

  abbrev pub calls_behind : Entry → ℕ → ℕ
  calls_behind s calls = counted (has_call q listed procedure s) calls

  -- the scopes behind a record; none once the function's own has ended
  abbrev pub scopes_after : Bases → Entry → List Entry → ℕ → List OpenScope → Option (List OpenScope)
  scopes_after bases s ss calls around = if ends_of (kind_at s.bytes) then left_open around else Some (scopes_behind bases s ss calls around)

  module _ (bases : Bases) (told : List ℕ → Bool) where
    abbrev pub variable_one : OpenScope → Entry → List Entry → Option Variable
    variable_one inner s ss = if inner.entered then option_and_then (variable_of q listed procedure told inner.bases inner.owner ss) (declared_at s) else None

    abbrev pub variables_ahead : List OpenScope → ℕ → List Entry → List Variable
    variables_ahead around calls [] = []
    variables_ahead [] calls (s ∷ ss) = option_to_list (variable_one (function_scope bases) s ss) ++ (if ends_of (kind_at s.bytes) then [] else variables_ahead (scopes_behind bases s ss calls []) (calls_behind s calls) ss)
    variables_ahead (o ∷ around) calls (s ∷ ss) = option_to_list (variable_one o s ss) ++ (if ends_of (kind_at s.bytes) then variables_ahead around (calls_behind s calls) ss else variables_ahead (scopes_behind bases s ss calls (o ∷ around)) (calls_behind s calls) ss)
