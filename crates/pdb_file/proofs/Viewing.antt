-- What a view gives of what is held.
use Rattle.std.proofs.Common.{◌≡◌, ◌<◌, ◌≤◌, ℕ, [], ◌∷◌, get_or, subst, arith, Bool, true, false, List, Option, Result, Ok, Err, refl, sym, ap, ◌∙◌, flat_map}
use Rattle.std.specs.Prelude.{IfErr, OnOk, length}
use Rattle.std.specs.List.{All, list_all}
use Rattle.std.proofs.lemmas.List.{get_or_default}
use Rattle.std.proofs.lemmas.List.Elements.{All-cons, All-nil}
use Rattle.pdb_base.specs.declared.source.SourceSlice.{SourceSlice}
use Rattle.pdb_base.specs.declared.error.Error.TheVariants.{UnexpectedEof}
use Rattle.pdb_base.specs.Source.{Continues, is_inside, slice_bytes, viewed}
use Rattle.pdb_file.specs.declared.run.Run.{Run}
use Rattle.pdb_file.specs.HeldBytes.{IsAllHeld, StandsIn, Kept, IsOf, Seen, has_all, is_inside_of, knows, reading}
use Rattle.pdb_file.specs.declared.reading.FetchError.{FetchError}
use Rattle.pdb_file.specs.declared.reading.FetchError.TheVariants.{Memory, Read}
use Rattle.pdb_file.proofs.Files.{has_known, inside_same, of_told, told_before}

pub on_ok : {X E : Type 0} (r : Result X E) (P : Type 0) → P → OnOk r P
on_ok (Ok x) P h = h
on_ok (Err e) P h = tt

-- what is known of a file is known of the same file
pub known_in : (o : Option (List ℕ)) (file : List ℕ) (k : Kept) (n : ℕ) (steady : Bool) (s : Seen) → record { file = file; kept = k; failures = n; steady = steady; known = knows o file } ≡ s → s.known ≡ true → knows o s.file ≡ true
known_in o file k n steady s same known = ap (knows o) (sym (ap (λ s. s.file) same)) ∙ ap (λ s. s.known) same ∙ known

-- whether slices lie in a file is seen by its size
pub inside_told : (file : List ℕ) (k : Kept) (ss : List SourceSlice) (b : Bool) → has_all file k ≡ true → list_all (is_inside_of k.size) ss ≡ b → list_all (is_inside file) ss ≡ b
inside_told file k ss b told h = sym (inside_same file k.size ss (of_told file k told).size) ∙ h

pub viewed_past : (file : List ℕ) (k : Kept) (ss : List SourceSlice) → has_all file k ≡ true → list_all (is_inside_of k.size) ss ≡ false → viewed file ss ≡ Err UnexpectedEof
unfolding viewed
viewed_past file k ss told h = rw (inside_told file k ss false told h) refl

pub viewed_inside : (file : List ℕ) (k : Kept) (ss : List SourceSlice) (bytes : List ℕ) → has_all file k ≡ true → list_all (is_inside_of k.size) ss ≡ true → bytes ≡ flat_map (slice_bytes file) ss → viewed file ss ≡ Ok bytes
unfolding viewed
viewed_inside file k ss bytes told h same = rw (inside_told file k ss true told h) (ap Ok (sym same))

pub goes_on : (old new : Seen) → new.file ≡ old.file → old.failures ≤ new.failures → (old.steady ≡ true → (new.steady ≡ true) × (new.failures ≡ old.failures)) → new.known ≡ old.known
    → (IsOf old.file new.kept → IsOf old.file old.kept) → (old.known ≡ true → IsOf old.file old.kept → IsOf old.file new.kept) → Continues (reading old) (reading new)
goes_on old new file rises steady same kept known = record {
  file = file;
  rises = rises;
  steady = steady;
  told = λ h. told_before old.file old.kept new.kept kept (ap (λ F. has_all F new.kept) (sym file) ∙ h);
  known = λ h. (same ∙ h.0, ap (λ F. has_all F new.kept) file ∙ has_known old.file new.kept (known h.0 (of_told old.file old.kept h.1)));
}

pub read_fails : {X : Type 0} (r : Result X FetchError) → r ≡ Err Read → IfErr r (λ e. e ≡ Memory) → ⊥
read_fails (Ok x) failed memory = absurd cc
read_fails (Err e) failed memory = absurd cc

-- one slice that stands in one run is held
pub one_held : (k : Kept) (ss : List SourceSlice) (s : SourceSlice) (i : ℕ) (d : Run) → ss ≡ s ∷ [] → i < length k.runs → StandsIn s (get_or k.runs i d) → All (IsAllHeld k) ss
one_held k ss s i d one lt stands = subst (All (IsAllHeld k)) (sym one) (All-cons (IsAllHeld k) s [] held (All-nil (IsAllHeld k)))
  where
    held : IsAllHeld k s
    held = λ at low high. (i, get_or k.runs i d, lt, get_or_default k.runs i (get_or k.runs i d) d lt, (omega (arith, stands.0, low), omega (arith, stands.1, high)))
