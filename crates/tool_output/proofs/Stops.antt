-- Stops that are passed on.
use Rattle.std.proofs.Common.{◌≡◌, ℕ, ap, Bool, true, false, true≢false, ◌∙◌, Result, Ok, Err, subst, sym}
use Rattle.std.specs.Prelude.{IfErr, IfOk, IsErrAnd, IsErrOf, MatchResult, is_ok}
use Rattle.pdb.specs.Source.{State, Continues, MayFail}
use Rattle.pdb.proofs.Passing.{unsteady_before}
use Rattle.tool_output.specs.Stops.{Halts, StopsCommand, StopsComposing, StopsOpening, StopsWriting}
use Rattle.tool_output.specs.WriteFailures.{failures_after}
use Rattle.tool_output.specs.declared.stop.Stop.{Stop}
use Rattle.tool_printing.specs.Printing.{Printing}
use Rattle.tool_output.specs.declared.stop.Stop.TheVariants.{Read, Open, Memory, Write}

-- a call that stops as another one did
pub stopped_as : {T : Type 0} (P : Stop → Type 0) (r : Result T Stop) (s : Stop) → IsErrAnd r (λ x. x ≡ s) → P s → IfErr r P
stopped_as P (Ok x) s is h = tt
stopped_as P (Err x) s is h = subst P (sym is) h

pub if_stopped : {T : Type 0} (P Q : Stop → Type 0) (r : Result T Stop) → ((s : Stop) → P s → Q s) → IfErr r P → IfErr r Q
if_stopped P Q (Ok x) f h = tt
if_stopped P Q (Err s) f h = f s h

pub opening_command : (io io' : Type 0) → (io → io') → (s : Stop) → StopsOpening io s → StopsCommand io' s
opening_command io io' f Memory h = tt
opening_command io io' f Read h = f h
opening_command io io' f (Open e) h = tt
opening_command io io' f s h = absurd h

pub composing_command : (io io' : Type 0) → (io → io') → (s : Stop) → StopsComposing io s → StopsCommand io' s
composing_command io io' f Memory h = tt
composing_command io io' f Read h = f h
composing_command io io' f s h = absurd h

pub writing_command : (io io' : Type 0) → (io → io') → (s : Stop) → StopsWriting io s → StopsCommand io' s
writing_command io io' f Memory h = tt
writing_command io io' f Read h = f h
writing_command io io' f Write h = tt
writing_command io io' f s h = absurd h

pub writing_weaken : (io io' : Type 0) → (io → io') → (s : Stop) → StopsWriting io s → StopsWriting io' s
writing_weaken io io' f Memory h = tt
writing_weaken io io' f Read h = f h
writing_weaken io io' f Write h = tt
writing_weaken io io' f s h = absurd h

pub composing_weaken : (io io' : Type 0) → (io → io') → (s : Stop) → StopsComposing io s → StopsComposing io' s
composing_weaken io io' f Memory h = tt
composing_weaken io io' f Read h = f h
composing_weaken io io' f s h = absurd h

-- the same of a call that passes on why another one stopped
pub opening_passed : {T : Type 0} (io io' : Type 0) → (io → io') → (r : Result T Stop) (s : Stop) → IsErrAnd r (λ x. x ≡ s) → StopsOpening io s → IfErr r (StopsCommand io')
opening_passed io io' f r s is h = stopped_as (StopsCommand io') r s is (opening_command io io' f s h)

pub composing_passed : {T : Type 0} (io io' : Type 0) → (io → io') → (r : Result T Stop) (s : Stop) → IsErrAnd r (λ x. x ≡ s) → StopsComposing io s → IfErr r (StopsCommand io')
composing_passed io io' f r s is h = stopped_as (StopsCommand io') r s is (composing_command io io' f s h)

-- a source that failed once it was opened isn't steady
pub unsteady_source : (source opened new : State) → Continues source opened → MayFail opened new → source.steady ≡ false
unsteady_source source opened new on fails = unsteady_before source opened on fails.unsteady

-- over a source that can't fail there is no read error
pub unread_command : {T : Type 0} (steady : Bool) (r : Result T Stop) → steady ≡ true → IfErr r (StopsCommand (steady ≡ false)) → IsErrOf r Read → ⊥
unread_command steady (Ok x) sure stops read = absurd cc
unread_command steady (Err Read) sure stops read = absurd (true≢false (sym sure ∙ stops))
unread_command steady (Err e) sure stops read = absurd cc

pub unread_opening : {T : Type 0} (steady : Bool) (r : Result T Stop) → steady ≡ true → IfErr r (StopsOpening (steady ≡ false)) → IsErrOf r Read → ⊥
unread_opening steady (Ok x) sure stops read = absurd cc
unread_opening steady (Err Read) sure stops read = absurd (true≢false (sym sure ∙ stops))
unread_opening steady (Err e) sure stops read = absurd cc

-- what a call gave is passed on where its error is told in other words
pub mapped_ok : {T E F : Type 0} (a : Result T E) (b : Result T F) (P : T → Type 0) (Q : E → Type 0) → MatchResult a (λ x. b ≡ Ok x) Q → is_ok b ≡ is_ok a → IfOk a P → IfOk b P
mapped_ok (Ok x) b P Q cases same h = subst (λ r. IfOk r P) (sym cases) h
mapped_ok (Err e) (Ok y) P Q cases same h = absurd cc
mapped_ok (Err e) (Err f) P Q cases same h = tt

pub if_ok_on : {T E : Type 0} (r : Result T E) (P Q : T → Type 0) → ((x : T) → P x → Q x) → IfOk r P → IfOk r Q
if_ok_on (Ok x) P Q f h = f x h
if_ok_on (Err e) P Q f h = tt

-- a call that prints, and stops for what a later one could have stopped for
pub halts_weaken : {T : Type 0} (io io' : Type 0) (s t : Printing) (r : Result T Stop) → (io → io') → Halts io s t r → Halts io' s t r
halts_weaken io io' s t r f h = record {
  cause = if_stopped (StopsWriting io) (StopsWriting io') r (writing_weaken io io' f) h.cause;
  failures = h.failures;
}

failures_then : {T : Type 0} (a b c : ℕ) (r : Result T Stop) → b ≡ a → c ≡ failures_after b r → c ≡ failures_after a r
failures_then a b c r e h = h ∙ ap (λ n. failures_after n r) e

-- the same behind another one that printed its text
pub halts_then : {T : Type 0} (io io' : Type 0) (s t u : Printing) (r : Result T Stop) → (io → io') → t.failures ≡ s.failures → Halts io t u r → Halts io' s u r
halts_then io io' s t u r f e h = record {
  cause = if_stopped (StopsWriting io) (StopsWriting io') r (writing_weaken io io' f) h.cause;
  failures = failures_then s.failures t.failures u.failures r e h.failures;
}
