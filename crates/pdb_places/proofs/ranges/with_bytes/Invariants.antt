use Rattle.std.proofs.Common.{◌≡◌, filter, take}
use Rattle.pdb_places.specs.Sorting.{has_bytes}
use Rattle.pdb_places.proofs.ranges.with_bytes.Given as goal

-- those so far are kept
abbrev pub invariant-loop-row : goal.invariant-loop-row
invariant-loop-row l = l.kept.items ≡ filter has_bytes (take l.row-index l.rows)
