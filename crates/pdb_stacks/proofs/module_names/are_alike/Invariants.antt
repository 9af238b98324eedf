use Rattle.std.proofs.Common.{◌≡◌, drop}
use Rattle.pdb_stacks.proofs.NamePairs.{alike}
use Rattle.pdb_stacks.proofs.module_names.are_alike.Given as goal

-- the names are alike where those parts are that are left
abbrev pub invariant-loop-index : goal.invariant-loop-index
invariant-loop-index l = alike l.a l.b ≡ alike (drop l.index l.a) (drop l.index l.b)
