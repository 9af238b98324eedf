use Rattle.std.proofs.Common.{◌≡◌, ◌*◌, ◌^◌, ◌≤◌, ◌<◌, ℕ, length, get_or}
use Rattle.std.specs.List.{sum_by, range_with_len}
use Rattle.pdb_base.specs.Container.{pages_of}
use Rattle.pdb_base.proofs.directory.pages_before.Given as goal

-- the sums so far, and the next one
abbrev pub invariant-loop-stream : goal.invariant-loop-stream
invariant-loop-stream l = record {
  pages : l.pages ≡ sum_by (pages_of l.directory l.page_size) (range_with_len 0 l.stream);
  little : l.pages ≤ l.stream * 2 ^ 25;
  each : (k : ℕ) → k < length l.before.items → get_or l.before.items k 0 ≡ sum_by (pages_of l.directory l.page_size) (range_with_len 0 k);
  small : (k : ℕ) → k < length l.before.items → get_or l.before.items k 0 ≤ k * 2 ^ 25;
  count : length l.before.items ≡ l.stream;
}
