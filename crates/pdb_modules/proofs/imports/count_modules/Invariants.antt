use Rattle.std.proofs.Common.{◌≡◌, ◌*◌, ◌-◌, ◌≤◌, length}
use Rattle.pdb_modules.proofs.imports.count_modules.Given as goal

-- each module that was counted has eight bytes
abbrev pub invariant-loop-buffer : goal.invariant-loop-buffer
invariant-loop-buffer l = record {
  same : l.buffer.bytes ≡ l.part;
  inside : l.buffer.place ≤ length l.part;
  few : 8 * l.count ≤ l.buffer.place;
}

abbrev pub decreases-loop-buffer : goal.decreases-loop-buffer
decreases-loop-buffer l = length l.part - l.buffer.place
