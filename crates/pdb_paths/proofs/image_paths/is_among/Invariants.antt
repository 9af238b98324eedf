use Rattle.std.proofs.Common.{◌≡◌, drop, map}
use Rattle.pdb_paths.specs.ImagePaths.{is_among}
use Rattle.pdb_paths.proofs.image_paths.is_among.Given as goal

-- it is among all where it is among those that are left
abbrev pub invariant-loop-other : goal.invariant-loop-other
invariant-loop-other l = is_among (map (λ p. p.items) l.paths) l.path ≡ is_among (map (λ p. p.items) (drop l.other-index l.paths)) l.path
