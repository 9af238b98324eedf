use Rattle.std.proofs.Common.{◌≡◌, ℕ, ◌-◌, ◌+◌, ◌≤◌, ◌++◌, List, length, take, drop}
use Rattle.pdb_file.specs.HeldBytes.{Agrees}
use Rattle.pdb_file.proofs.source.copy_slice.Given as goal

abbrev pub invariant-loop-done : goal.invariant-loop-done
invariant-loop-done l = record {
  fits : l.done ≤ l.slice.size;
  many : length l.all.items ≡ length l.fn.all.items + l.done;
  all : (F : List ℕ) → Agrees F l.held → l.all.items ≡ l.fn.all.items ++ take l.done (drop l.slice.offset F);
}

abbrev pub decreases-loop-done : goal.decreases-loop-done
decreases-loop-done l = l.slice.size - l.done
