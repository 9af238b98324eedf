-- Words of private functions: the contributions as they are kept.
use Rattle.std.specs.Prelude.{◌≡◌, ℕ, ◌+◌, Bool, true, List, [], ◌∷◌, map, Option, Some, None}
use Rattle.pdb.specs.DBISectionContribution.{DBISectionContribution}
use Rattle.pdb_places.specs.declared.range.CodeRange.{CodeRange}
use Rattle.pdb_places.specs.declared.module_places.LastFound.{LastFound}
use Rattle.pdb_places.specs.declared.module_places.ModuleTable.{ModuleTable}
use Rattle.pdb_places.specs.Pieces.{Code, AreRangesOf, IsKeptOf}
use Rattle.pdb_places.specs.ModulePlaces.{module_number_at, module_of}

-- contribution number k as a piece of code, of which no scope is known
abbrev pub piece : ℕ → DBISectionContribution → Code
piece k c = record { index = k; place = c.offset; length = c.size; end = 0 }

-- contributions of which the first has number k
abbrev pub pieces_from : ℕ → List DBISectionContribution → List Code
pieces_from k [] = []
pieces_from k (c ∷ cs) = piece k c ∷ pieces_from (k + 1) cs

-- ranges find the numbers of these contributions, and the numbers of their modules stand in their order
pub record IsTableOf (cs : List DBISectionContribution) (rs : List CodeRange) (ms : List ℕ) : Type 0 where
  pub ranges : IsKeptOf (pieces_from 0 cs) rs
  pub modules : ms ≡ map module_of cs

abbrev pub IsTableIfMade : List DBISectionContribution → Option ModuleTable → Type 0
IsTableIfMade cs None = Unit {0}
IsTableIfMade cs (Some t) = IsTableOf cs t.ranges t.modules.items × AreRangesOf (pieces_from 0 cs) t.listed.items

-- what the last question found, if there was one
abbrev pub IsLastFound : Option (List ℕ) → Bool → Option LastFound → Type 0
IsLastFound stream asked None = Unit {0}
IsLastFound stream asked (Some last) = (last.«module» ≡ module_number_at last.place stream) × (asked ≡ true)
