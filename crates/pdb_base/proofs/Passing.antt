-- Passing on what a call answered.
use Rattle.std.proofs.Common.{◌≡◌, ◌≢◌, ℕ, inl, inr, Bool, true, false, Result, Ok, Err, refl, ◌∙◌, arith}
use Rattle.pdb_base.specs.declared.error.Error.{Error}
use Rattle.pdb_base.specs.declared.error.Error.TheVariants.{IoError, OutOfMemory}
use Rattle.pdb_base.specs.Refusal.{Answers, Fails, Gives, ◌>>=◌}
use Rattle.pdb_base.specs.Cursor.{Cursor, Reads}
use Rattle.pdb_base.specs.Source.{State, Continues, MayFail}

pub fails_weaken : {Y : Type 0} (io io' : Type 0) (e : Error) (read : Result Y Error) → (io → io') → Fails io e read → Fails io' e read
fails_weaken io io' IoError read f h = f h
fails_weaken io io' OutOfMemory read f h = tt
fails_weaken io io' e read f h = h

pub gives_weaken : {X Y : Type 0} (view : X → Y) (io io' : Type 0) (r : Result X Error) (read : Result Y Error) → (io → io') → Gives view io r read → Gives view io' r read
gives_weaken view io io' (Ok x) read f h = h
gives_weaken view io io' (Err e) read f h = fails_weaken io io' e read f h

-- what refuses a step refuses all
pub fails_bind : {A B : Type 0} (io io' : Type 0) (e : Error) (read : Result A Error) (next : A → Result B Error) → (io → io') → Fails io e read → Fails io' e (read >>= next)
fails_bind io io' IoError read next f h = f h
fails_bind io io' OutOfMemory read next f h = tt
fails_bind io io' e read next f h = rw h refl

pub continues_then : (a b c : State) → Continues a b → Continues b c → Continues a c
continues_then a b c p q = record {
  file = q.file ∙ p.file;
  rises = omega arith;
  steady = λ h. let s = p.steady h in let t = q.steady s.0 in (t.0, t.1 ∙ s.1);
  told = λ h. p.told (q.told h);
  known = λ h. q.known (p.known h);
}

pub unsteady_before : (a b : State) → Continues a b → b.steady ≡ false → a.steady ≡ false
unsteady_before a b p h = by_cases a.steady refl
  where
    by_cases : (x : Bool) → a.steady ≡ x → a.steady ≡ false
    by_cases true e = let s = (p.steady e).0 in absurd cc
    by_cases false e = e

pub may_after : (a b c : State) → Continues a b → MayFail b c → MayFail a c
may_after a b c p m = record {
  unsteady = unsteady_before a b p m.unsteady;
  told = elim m.told [ inl h ↦ inl (omega arith) | inr h ↦ inr h ];
}

-- a read at a place answers what stands there
pub answers_reads : {X Y : Type 0} (view : X → Y) (old new : Cursor) (r : Result X Error) (there read : Result Y Error) (width : Y → ℕ) → there ≡ read → Reads view old new r there width → Answers view r read
answers_reads view old new (Ok x) there read width e h = rw (← e) h.0
answers_reads view old new (Err d) there read width e h = (rw (← e) h.0, h.2, h.3)

-- a refusal that isn't the source's is passed on
pub refused_fails : {Y : Type 0} (io : Type 0) (e : Error) (read : Result Y Error) → read ≡ Err e → e ≢ IoError → Fails io e read
refused_fails io IoError read h sure = absurd (sure refl)
refused_fails io OutOfMemory read h sure = tt
refused_fails io e read h sure = h

-- what takes no memory and asks for no view answers also where both may fail
pub answers_give : {X Y : Type 0} (view : X → Y) (io : Type 0) (r : Result X Error) (read : Result Y Error) → Answers view r read → Gives view io r read
answers_give view io (Ok x) read h = h
answers_give view io (Err e) read h = refused_fails io e read h.0 h.2
