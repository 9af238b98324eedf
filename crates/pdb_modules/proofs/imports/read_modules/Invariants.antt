use Rattle.std.proofs.Common.{◌≡◌, ◌-◌, ◌≤◌, length}
use Rattle.pdb_modules.proofs.ImportLemmas.{IsImporting}
use Rattle.pdb_modules.proofs.imports.read_modules.Given as goal

-- the modules so far are listed
abbrev pub invariant-loop-buffer : goal.invariant-loop-buffer
invariant-loop-buffer l = record {
  same : l.buffer.bytes ≡ l.part;
  inside : l.buffer.place ≤ length l.part;
  importing : IsImporting l.part l.buffer.place l.modules.items;
}

abbrev pub decreases-loop-buffer : goal.decreases-loop-buffer
decreases-loop-buffer l = length l.part - l.buffer.place
