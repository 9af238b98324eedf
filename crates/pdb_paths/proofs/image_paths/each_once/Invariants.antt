use Rattle.std.proofs.Common.{◌≡◌, map}
use Rattle.pdb_paths.specs.ImagePaths.{once}
use Rattle.pdb_paths.proofs.image_paths.each_once.Given as goal

-- the paths so far stand once
abbrev pub invariant-loop-path : goal.invariant-loop-path
invariant-loop-path l = map (λ p. p.items) l.paths.items ≡ once (map (λ p. p.items) l.yielded)
