use Rattle.std.proofs.Common.{◌≡◌, map}
use Rattle.std.specs.List.{range_with_len}
use Rattle.pdb_modules.specs.CrossModule.{export_in}
use Rattle.pdb_modules.proofs.exports.read_pairs.Given as goal

-- the pairs so far are read
abbrev pub invariant-loop-i : goal.invariant-loop-i
invariant-loop-i l = l.pairs.items ≡ map (export_in l.part) (range_with_len 0 l.i)
