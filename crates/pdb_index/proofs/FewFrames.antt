-- Stacks have at most so many frames.
use Rattle.std.proofs.Common.{ℕ, zero, suc, ◌-◌, ◌≤◌, Bool, true, false, cond, List, [], Option, Some, None, count_by, arith}
use Rattle.std.specs.Prelude.{◌==◌}
use Rattle.std.specs.Option.{is_some}
use Rattle.std.proofs.lemmas.List.Sums.{sum_by-cons}
use Rattle.pdb_index.specs.declared.layout.Layout.{Layout}
use Rattle.pdb_index.specs.NodeFrames.{Told, frame_of, stack_of, with_outer}

outside : (rest : List (Option Told)) (n : ℕ) (z : Bool) → count_by is_some rest ≤ n → count_by is_some (cond z [] rest) ≤ n
outside rest n true h = omega arith
outside rest n false h = h

-- a frame, and few outside of it
by_frame : (rest : ℕ → List (Option Told)) (n k : ℕ) → ((j : ℕ) → count_by is_some (rest j) ≤ n) → (f : Option (Told × ℕ)) → count_by is_some (with_outer rest k f) ≤ suc n
by_frame rest n k h None = omega arith
by_frame rest n k h (Some f) =
    let few_outside = outside (rest (k - f.1)) n (f.1 == 0) (h (k - f.1)) in
    let one = sum_by-cons (λ (x : Option Told). cond (is_some x) 1 0) (Some f.0) (cond (f.1 == 0) [] (rest (k - f.1))) in
    omega (arith, one, few_outside)

pub few : (b : List ℕ) (t : Layout) (n k : ℕ) → count_by is_some (stack_of b t n k) ≤ n
unfolding stack_of
few b t zero k = omega arith
few b t (suc n) k = by_frame (stack_of b t n) n k (few b t n) (frame_of b t k)
