-- The bytes of an address range that no gap has, as its longest runs.
use Rattle.std.specs.Prelude.{ℕ, zero, suc, ◌+◌, ◌-◌, Bool, not, ◌&&◌, nat_le, nat_lt, if◌then◌else◌, List, [], ◌∷◌, ◌++◌, min, max}
use Rattle.std.specs.List.{list_any}
use Rattle.pdb_records.specs.declared.lists.AddressGap.{AddressGap}
use Rattle.pdb_records.specs.declared.pieces.Piece.{Piece}

-- a gap has byte i of its range
abbrev pub is_in : ℕ → AddressGap → Bool
is_in i gap = nat_le gap.start i && nat_lt i (gap.start + gap.len)

-- no gap has it
abbrev pub is_held : List AddressGap → ℕ → Bool
is_held gaps i = not (list_any (is_in i) gaps)

-- the run of n bytes that ends before byte i; none where n is 0
abbrev pub run_to : ℕ → ℕ → List Piece
run_to i zero = []
run_to i (suc n) = record { start = i - suc n; len = suc n } ∷ []

-- the runs of held bytes among the m bytes from i on, of which n held bytes stand directly before i
abbrev pub pieces_from : List AddressGap → ℕ → ℕ → ℕ → List Piece
pieces_from gaps n i zero = run_to i n
pieces_from gaps n i (suc m) = if is_held gaps i then pieces_from gaps (suc n) (i + 1) m else run_to i n ++ pieces_from gaps 0 (i + 1) m

-- those of a range of this length
unfoldable pub pieces_of : ℕ → List AddressGap → List Piece
pieces_of len gaps = pieces_from gaps 0 0 len

-- ---- gaps in the order of their starts, as they are passed

-- the run from one byte up to another
abbrev pub run_between : ℕ → ℕ → List Piece
run_between from to = run_to to (to - from)

-- where a gap ends, no further than the range
abbrev pub end_in : ℕ → AddressGap → ℕ
end_in len gap = min (gap.start + gap.len) len

-- the runs from a byte on, between the gaps that follow
abbrev pub runs_between : ℕ → ℕ → List AddressGap → List Piece
runs_between len at [] = run_between at len
runs_between len at (g ∷ gs) = if nat_lt 0 g.len then run_between at (min g.start len) ++ runs_between len (max at (end_in len g)) gs else runs_between len at gs
