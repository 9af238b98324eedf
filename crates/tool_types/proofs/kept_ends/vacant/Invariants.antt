use Rattle.std.proofs.Common.{◌≡◌, ◌≤◌, ◌-◌, None, length, replicate}
use Rattle.tool_types.proofs.kept_ends.vacant.Given as goal

-- so many slots so far
abbrev pub invariant-loop-rows : goal.invariant-loop-rows
invariant-loop-rows l = record {
  vacant : l.rows.items ≡ replicate (length l.rows.items) None;
  few : length l.rows.items ≤ 1024;
}

abbrev pub decreases-loop-rows : goal.decreases-loop-rows
decreases-loop-rows l = 1024 - length l.rows.items
