use Rattle.std.proofs.Common.{◌≡◌, ◌<◌, ◌≤◌, ℕ, List, length, get_or, take}
use Rattle.std.specs.List.{All}
use Rattle.std.specs.Option.{ForSome}
use Rattle.pdb_base.specs.declared.source.SourceSlice.{SourceSlice}
use Rattle.pdb_file.specs.HeldBytes.{IsHeldAt, IsOf}
use Rattle.pdb_file.proofs.Groups.{IsHeldOrIn}
use Rattle.pdb_file.proofs.reading.fetch.Given as goal

-- the slices so far are held, or are between the two offsets; those behind begin behind the first of these
abbrev pub invariant-loop-slice : goal.invariant-loop-slice
invariant-loop-slice g l = record {
  size : l.held.size ≡ l.fn.held.size;
  kept : (F : List ℕ) → IsOf F l.held → IsOf F l.fn.held;
  told : ForSome (g.R.ReadAt.known l.input) (λ F. IsOf F l.fn.held → IsOf F l.held);
  grows : (at : ℕ) → IsHeldAt l.fn.held at → IsHeldAt l.held at;
  done : All (IsHeldOrIn l.held l.from l.end) (take l.slice-index l.slice-items);
  behind : (j : ℕ) (d : SourceSlice) → l.slice-index ≤ j → j < length l.slice-items → l.from ≤ (get_or l.slice-items j d).offset;
  within : l.end ≤ l.held.size;
}
