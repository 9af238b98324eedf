use Rattle.std.proofs.Common.{◌≡◌, map, take}
use Rattle.pdb_names.specs.Pieces.{joined}
use Rattle.pdb_names.proofs.pieces.joined.Given as goal

abbrev pub invariant-loop-i : goal.invariant-loop-i
invariant-loop-i l = l.name.items ≡ joined l.mark (map (λ v. v.items) (take l.i l.texts))
