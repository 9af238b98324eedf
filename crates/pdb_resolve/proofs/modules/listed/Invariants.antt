use Rattle.std.proofs.Common.{◌≡◌, ◌++◌, length}
use Rattle.pdb.specs.DbiViews.{modules_left}
use Rattle.pdb_resolve.proofs.modules.listed.Given as goal

-- the modules so far, and those that are left, are all
abbrev pub invariant-loop-module : goal.invariant-loop-module
invariant-loop-module l = l.listed.items ++ (modules_left l.modules).items ≡ (modules_left l.fn.modules).items

abbrev pub decreases-loop-module : goal.decreases-loop-module
decreases-loop-module l = length (modules_left l.modules).items
