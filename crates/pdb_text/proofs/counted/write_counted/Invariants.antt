use Rattle.std.proofs.Common.{◌≡◌, ◌≤◌, ◌-◌, length, take}
use Rattle.std.specs.Io.KnownBytes.{Appends}
use Rattle.pdb_text.proofs.counted.write_counted.Given as goal

-- the bytes in front were written, and no write failed
abbrev pub invariant-loop-at : goal.invariant-loop-at
invariant-loop-at g l = record {
  within : l.at ≤ length l.bytes;
  told : Appends (g.W.Write.contents l.fn.out) (g.W.Write.contents l.out) (take l.at l.bytes);
  failures : g.W.CountedWrite.failures l.out ≡ g.W.CountedWrite.failures l.fn.out;
}

abbrev pub decreases-loop-at : goal.decreases-loop-at
decreases-loop-at g l = length l.bytes - l.at
