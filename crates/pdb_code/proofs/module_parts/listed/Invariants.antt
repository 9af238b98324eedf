use Rattle.std.proofs.Common.{◌≡◌, ◌++◌, length}
use Rattle.pdb.specs.ModuleViews.{inlinees_left}
use Rattle.pdb_code.proofs.module_parts.listed.Given as goal

-- those so far, and those that are left, are all; the fault stays
abbrev pub invariant-loop-inlinee : goal.invariant-loop-inlinee
invariant-loop-inlinee l = record {
  all : l.listed.items ++ (inlinees_left l.inlinees).items ≡ (inlinees_left l.fn.inlinees).items;
  fault : (inlinees_left l.inlinees).fault ≡ (inlinees_left l.fn.inlinees).fault;
}

abbrev pub decreases-loop-inlinee : goal.decreases-loop-inlinee
decreases-loop-inlinee l = length (inlinees_left l.inlinees).items
