use Rattle.std.proofs.Common.{◌≡◌, map, take}
use Rattle.pdb_places.specs.Pieces.{range_parts, range_start}
use Rattle.pdb_code.proofs.module_parts.starts_of.Given as goal

-- the rows so far are the first bytes of as many ranges
abbrev pub invariant-loop-range : goal.invariant-loop-range
invariant-loop-range l = map range_parts l.rows.items ≡ map range_start (take l.range-index l.listed)
