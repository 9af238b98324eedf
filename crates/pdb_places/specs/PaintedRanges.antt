-- Words of private functions: ranges of code as spans of the places of all sections, and as cuts.
use Rattle.std.specs.Prelude.{◌≡◌, ◌*◌, ◌<◌, ◌^◌, List, length, None}
use Rattle.pdb.specs.PdbInternalSectionOffset.{PdbInternalSectionOffset}
use Rattle.pdb.specs.LineOrder.{order_of}
use Rattle.pdb_places.specs.declared.range.CodeRange.{CodeRange}
use Rattle.pdb_places.specs.declared.span.Span.{Span}
use Rattle.pdb_places.specs.declared.painted.Cut.{Cut}
use Rattle.pdb_places.specs.Covering.{first_covering}
use Rattle.pdb_places.specs.Painting.{first_with, owner_at, AreCuts}

-- the first span that has a place stands for the first range that covers it
pub record AreSpansOf (rs : List CodeRange) (ss : List Span) : Type 0 where
  pub finds : (q : PdbInternalSectionOffset) → q.offset < 2 ^ 32 → first_with (order_of q) ss ≡ first_covering q rs
  pub as_many : length ss ≡ length rs

-- what stands for a place by the cuts stands for the first range that covers it
pub record AreCutsOf (rs : List CodeRange) (cs : List Cut) : Type 0 where
  pub cuts : AreCuts cs
  pub finds : (q : PdbInternalSectionOffset) → q.offset < 2 ^ 32 → owner_at (order_of q) None cs ≡ first_covering q rs
  pub two : length cs ≡ 2 * length rs
