use Rattle.std.proofs.Common.{◌≡◌, ℕ, List, ◌-◌}
use Rattle.std.specs.Option.{ForSome}
use Rattle.pdb_file.specs.HeldBytes.{AreHeld, IsHeldAt, IsOf}
use Rattle.pdb_file.proofs.reading.fill.Given as goal

abbrev pub invariant-loop-at : goal.invariant-loop-at
invariant-loop-at g l = record {
  size : l.held.size ≡ l.fn.held.size;
  kept : (F : List ℕ) → IsOf F l.held → IsOf F l.fn.held;
  told : ForSome (g.R.ReadAt.known l.input) (λ F. IsOf F l.fn.held → IsOf F l.held);
  grows : (at : ℕ) → IsHeldAt l.fn.held at → IsHeldAt l.held at;
  held : AreHeld l.held l.from l.at;
}

abbrev pub decreases-loop-at : goal.decreases-loop-at
decreases-loop-at g l = l.end - l.at
