use Rattle.std.proofs.Common.{◌≡◌, ◌+◌, ◌<◌, ◌^◌, length, map}
use Rattle.pdb.specs.DbiViews.{contributions_left}
use Rattle.pdb_c.specs.ContributionRows.{contribution_row}
use Rattle.pdb_c.specs.Rooms.{put}
use Rattle.pdb_c.proofs.contributions.fill.Given as goal

-- what was put, and what is left to put, are all
abbrev pub invariant-loop-contribution : goal.invariant-loop-contribution
invariant-loop-contribution l = record {
  told : put l.n (map contribution_row (contributions_left l.contributions).items) (map (λ r. r) l.records) ≡ put 0 (map contribution_row (contributions_left l.fn.contributions).items) (map (λ r. r) l.fn.records);
  counted : l.n + length (contributions_left l.contributions).items ≡ length (contributions_left l.fn.contributions).items;
  fault : (contributions_left l.contributions).fault ≡ (contributions_left l.fn.contributions).fault;
  few : length (contributions_left l.contributions).items < length (contributions_left l.fn.contributions).items → length (contributions_left l.fn.contributions).items < 2 ^ 64;
  room : length l.records ≡ length l.fn.records;
}

abbrev pub decreases-loop-contribution : goal.decreases-loop-contribution
decreases-loop-contribution l = length (contributions_left l.contributions).items
