-- Counts of failed writes where nothing was written.
use Rattle.std.proofs.Common.{◌≡◌, ℕ, Result, Ok, Err, refl, subst, sym}
use Rattle.std.specs.Prelude.{IsErrAnd}
use Rattle.tool_output.specs.Stops.{StopsOpening}
use Rattle.tool_output.specs.WriteFailures.{failures_after}
use Rattle.tool_output.specs.declared.stop.Stop.{Stop}
use Rattle.tool_output.specs.declared.stop.Stop.TheVariants.{Read, Open, Memory}

unopened : (X : Type 0) (io : Type 0) (n : ℕ) (s : Stop) → StopsOpening io s → n ≡ failures_after {X = X} n (Err s)
unopened X io n Memory h = refl
unopened X io n Read h = refl
unopened X io n (Open e) h = refl
unopened X io n s h = absurd h

-- a call that stops as one did that opens a file
pub opening_failures : {X : Type 0} (io : Type 0) (n : ℕ) (r : Result X Stop) (s : Stop) → IsErrAnd r (λ x. x ≡ s) → StopsOpening io s → n ≡ failures_after n r
opening_failures io n (Ok x) s is h = absurd is
opening_failures {X} io n (Err x) s is h = subst (λ (y : Stop). n ≡ failures_after {X = X} n (Err y)) (sym is) (unopened X io n s h)
