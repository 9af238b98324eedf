use Rattle.std.proofs.Common.{◌≡◌, ◌-◌, ◌≤◌, length}
use Rattle.pdb_base.specs.SectionHeader.{headers_of}
use Rattle.pdb.proofs.Headers.{with_front, headers_from}
use Rattle.pdb.proofs.sections.section_headers.Given as goal

-- the headers so far and those that are left are all of them
abbrev pub invariant-loop-buffer : goal.invariant-loop-buffer
invariant-loop-buffer l = record {
  inside : l.buffer.place ≤ length l.buffer.bytes;
  told : headers_of l.bytes ≡ with_front l.headers.items (headers_from l.buffer.bytes l.buffer.place);
}

abbrev pub decreases-loop-buffer : goal.decreases-loop-buffer
decreases-loop-buffer l = length l.buffer.bytes - l.buffer.place
