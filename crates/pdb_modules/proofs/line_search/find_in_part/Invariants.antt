use Rattle.std.proofs.Common.{◌≡◌, ◌-◌, ◌≤◌, length}
use Rattle.pdb_modules.specs.Rising.{RiseAt}
use Rattle.pdb_modules.proofs.BlockSearches.{IsSearching}
use Rattle.pdb_modules.proofs.line_search.find_in_part.Given as goal

-- no record that the blocks so far closed covers the place
abbrev pub invariant-loop-buffer : goal.invariant-loop-buffer
invariant-loop-buffer l = record {
  same : l.buffer.bytes ≡ l.part.bytes.now;
  inside : l.buffer.place ≤ length l.part.bytes.now;
  searching : IsSearching l.place l.part.place l.part.has_columns l.part.bytes.now l.buffer.place l.last;
  rising : RiseAt l.part.place l.part.has_columns l.part.bytes.now l.buffer.place l.rising;
}

abbrev pub decreases-loop-buffer : goal.decreases-loop-buffer
decreases-loop-buffer l = length l.part.bytes.now - l.buffer.place
