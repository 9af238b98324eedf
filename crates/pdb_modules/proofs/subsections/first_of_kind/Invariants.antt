use Rattle.std.proofs.Common.{◌≡◌, ◌-◌, ◌≤◌, length}
use Rattle.pdb_modules.proofs.SubsectionLemmas.{IsSearching}
use Rattle.pdb_modules.proofs.subsections.first_of_kind.Given as goal

-- none of the kind came so far
abbrev pub invariant-loop-buffer : goal.invariant-loop-buffer
invariant-loop-buffer l = record {
  same : l.buffer.bytes ≡ l.lines_data;
  inside : l.buffer.place ≤ length l.lines_data;
  searching : IsSearching l.kind l.lines_data l.buffer.place;
}

abbrev pub decreases-loop-buffer : goal.decreases-loop-buffer
decreases-loop-buffer l = length l.lines_data - l.buffer.place
