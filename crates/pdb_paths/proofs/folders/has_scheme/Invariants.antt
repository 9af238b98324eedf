use Rattle.std.proofs.Common.{◌≡◌, drop}
use Rattle.pdb_paths.specs.Folders.{has_scheme}
use Rattle.pdb_paths.proofs.folders.has_scheme.Given as goal

-- it has what is left has
abbrev pub invariant-loop-index : goal.invariant-loop-index
invariant-loop-index l = has_scheme l.part ≡ has_scheme (drop l.index l.part)
