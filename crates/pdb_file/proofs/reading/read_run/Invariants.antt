use Rattle.std.proofs.Common.{◌≡◌, ◌≤◌, ◌-◌, length, take, vec_len}
use Rattle.std.specs.Option.{ForSome}
use Rattle.pdb_file.specs.HeldBytes.{IsPart}
use Rattle.pdb_file.proofs.reading.read_run.Given as goal

-- the first bytes are read
abbrev pub invariant-loop-done : goal.invariant-loop-done
invariant-loop-done g l = record {
  told : ForSome (g.R.ReadAt.known l.input) (λ F. l.from ≤ length F → IsPart F l.from (take l.done l.bytes.items));
  within : l.done ≤ l.size;
  many : vec_len l.bytes ≡ l.size;
}

abbrev pub decreases-loop-done : goal.decreases-loop-done
decreases-loop-done g l = l.size - l.done
