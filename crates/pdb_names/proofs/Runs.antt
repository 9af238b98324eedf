-- Loops that read piece behind piece: as far as they are, what is left gives what the whole does.
use Rattle.std.proofs.Common.{◌≡◌, ℕ, zero, suc, ◌+◌, ◌<◌, ◌≤◌, Bool, true, false, refl, ◌∙◌, arith}
use Rattle.std.specs.Prelude.{Option, Some, None, Result, Ok, Err, IsErrAnd}
use Rattle.pdb_names.specs.Pieces.{until, Gives, Stops}
use Rattle.pdb_names.specs.declared.pieces.Stop.{Stop}
use Rattle.pdb_names.specs.declared.pieces.Stop.TheVariants.{NoAnswer, OutOfMemory}

pub record Run {S : Type 0} (is_end : S → Bool) (piece : S → Option S) (whole : Option S) (first size : ℕ) (now : S) : Type 0 where
  pub left : ℕ
  pub enough : size < left
  pub fewer : size ≤ first
  pub same : whole ≡ until is_end piece left now

pub run_start : {S : Type 0} (is_end : S → Bool) (piece : S → Option S) (size : ℕ) (now : S) → Run is_end piece (until is_end piece (size + 1) now) size size now
run_start is_end piece size now = record { left = size + 1; enough = omega arith; fewer = omega arith; same = refl }

step_is : {S : Type 0} (is_end : S → Bool) (piece : S → Option S) (left : ℕ) (now next : S) → is_end now ≡ false → piece now ≡ Some next → until is_end piece (suc left) now ≡ until is_end piece left next
unfolding until
step_is is_end piece left now next e p = rw (e, p) refl

run_step_of : {S : Type 0} (is_end : S → Bool) (piece : S → Option S) (whole : Option S) (first size : ℕ) (now next : S) (smaller left : ℕ) → size < left → size ≤ first → whole ≡ until is_end piece left now → is_end now ≡ false → piece now ≡ Some next → smaller < size → Run is_end piece whole first smaller next
run_step_of is_end piece whole first size now next smaller zero enough few same e p less = absurd (omega arith)
run_step_of is_end piece whole first size now next smaller (suc left) enough few same e p less = record { left = left; enough = omega arith; fewer = omega arith; same = same ∙ step_is is_end piece left now next e p }

pub run_step : {S : Type 0} (is_end : S → Bool) (piece : S → Option S) (whole : Option S) (first size : ℕ) (now next : S) (smaller : ℕ) → Run is_end piece whole first size now → is_end now ≡ false → piece now ≡ Some next → smaller < size → Run is_end piece whole first smaller next
run_step is_end piece whole first size now next smaller r e p less = run_step_of is_end piece whole first size now next smaller r.left r.enough r.fewer r.same e p less

end_is : {S : Type 0} (is_end : S → Bool) (piece : S → Option S) (left : ℕ) (now : S) → 0 < left → is_end now ≡ true → until is_end piece left now ≡ Some now
unfolding until
end_is is_end piece zero now some e = absurd (omega arith)
end_is is_end piece (suc left) now some e = rw e refl

pub run_end : {S : Type 0} (is_end : S → Bool) (piece : S → Option S) (whole : Option S) (first size : ℕ) (now : S) → Run is_end piece whole first size now → is_end now ≡ true → whole ≡ Some now
run_end is_end piece whole first size now r e =
    let enough = r.enough in
    r.same ∙ end_is is_end piece r.left now (omega (arith, enough)) e

stop_is : {S : Type 0} (is_end : S → Bool) (piece : S → Option S) (left : ℕ) (now : S) → is_end now ≡ false → piece now ≡ None → until is_end piece left now ≡ None
unfolding until
stop_is is_end piece zero now e p = refl
stop_is is_end piece (suc left) now e p = rw (e, p) refl

pub run_stop : {S : Type 0} (is_end : S → Bool) (piece : S → Option S) (whole : Option S) (first size : ℕ) (now : S) → Run is_end piece whole first size now → is_end now ≡ false → piece now ≡ None → whole ≡ None
run_stop is_end piece whole first size now r e p = r.same ∙ stop_is is_end piece r.left now e p

-- a piece that gives no answer is passed on
pub run_passed : {S Y : Type 0} (is_end : S → Bool) (piece : S → Option S) (whole : Option S) (first size : ℕ) (now : S) (w : Y → S) (e : Stop) (r : Result Y Stop) → Run is_end piece whole first size now → is_end now ≡ false → Stops e (piece now) → IsErrAnd r (λ x. x ≡ e) → Gives w r whole
run_passed is_end piece whole first size now w e (Ok y) run not_end given same = absurd same
run_passed is_end piece whole first size now w NoAnswer (Err OutOfMemory) run not_end given same = tt
run_passed is_end piece whole first size now w NoAnswer (Err NoAnswer) run not_end given same = run_stop is_end piece whole first size now run not_end given
run_passed is_end piece whole first size now w OutOfMemory (Err OutOfMemory) run not_end given same = tt
run_passed is_end piece whole first size now w OutOfMemory (Err NoAnswer) run not_end given same = cc
