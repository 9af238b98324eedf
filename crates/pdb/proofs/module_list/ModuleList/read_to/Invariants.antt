use Rattle.std.proofs.Common.{◌≡◌, length}
use Rattle.pdb_dbi.specs.DbiViews.{modules_left}
use Rattle.pdb.specs.Listed.{listed}
use Rattle.pdb.proofs.module_list.ModuleList.read_to.Given as goal

-- the whole list is the same
abbrev pub invariant-loop-self : goal.invariant-loop-self
invariant-loop-self l = listed (record { read = l.self-inside.read.items; fault = l.self-inside.fault; left = modules_left l.self-inside.left }) ≡ listed l.fn.self

abbrev pub decreases-loop-self : goal.decreases-loop-self
decreases-loop-self l = length (modules_left l.self-inside.left).items
