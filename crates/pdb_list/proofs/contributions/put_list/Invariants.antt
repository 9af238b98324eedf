use Rattle.std.proofs.Common.{◌≡◌, ◌++◌, length}
use Rattle.pdb.specs.DbiViews.{contributions_left}
use Rattle.pdb_list.specs.Texts.{contribution_list_text}
use Rattle.pdb_list.proofs.contributions.put_list.Given as goal

-- what was put, and the lines of the contributions that are left, are the lines of all
abbrev pub invariant-loop-contribution : goal.invariant-loop-contribution
invariant-loop-contribution l = l.out.items ++ contribution_list_text (contributions_left l.contributions) ≡ l.fn.out.items ++ contribution_list_text (contributions_left l.fn.contributions)

abbrev pub decreases-loop-contribution : goal.decreases-loop-contribution
decreases-loop-contribution l = length (contributions_left l.contributions).items
