use Rattle.std.proofs.Common.{◌≡◌, ◌++◌, length}
use Rattle.pdb.specs.InlinedViews.{inlined_left}
use Rattle.pdb_list.specs.ModuleTexts.{line_list_text}
use Rattle.pdb_list.proofs.inlinees.put_records.Given as goal

-- what was put, and the lines of what is left, are the lines of all; the fault is the same
abbrev pub invariant-loop-line : goal.invariant-loop-line
invariant-loop-line l = record {
  told : l.out.items ++ line_list_text (inlined_left l.lines) ≡ l.fn.out.items ++ line_list_text (inlined_left l.fn.lines);
  fault : (inlined_left l.lines).fault ≡ (inlined_left l.fn.lines).fault;
}

abbrev pub decreases-loop-line : goal.decreases-loop-line
decreases-loop-line l = length (inlined_left l.lines).items
