-- Ranges that have bytes, sorted by their places.
use Rattle.std.specs.Prelude.{Bool, nat_lt, List}
use Rattle.std.specs.Ordering.{nat_cmp}
use Rattle.std.specs.List.Sorted.{IsNonDecreasingBy, IsPermutation, IsStableByKey}
use Rattle.pdb_places.specs.declared.range.CodeRange.{CodeRange}
use Rattle.pdb_places.specs.RangeOrder.{start_of}

abbrev pub has_bytes : CodeRange → Bool
has_bytes r = nat_lt 0 r.length

-- ys are xs, sorted by place; those at one place stand as they do in xs
pub record IsSortOf (xs ys : List CodeRange) : Type 0 where
  pub rises : IsNonDecreasingBy start_of ys
  pub stable : IsStableByKey start_of nat_cmp xs ys
  pub all : IsPermutation xs ys
