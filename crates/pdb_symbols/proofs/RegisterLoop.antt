-- Reading parts one after the other, as a loop does.
use Rattle.std.proofs.Common.{◌≡◌, ℕ, suc, ◌-◌, ◌+◌, ◌≤◌, ◌<◌, List, [], ◌∷◌, ◌++◌, Result, Ok, Err, refl, sym, ap, ◌∙◌, append_assoc, arith}
use Rattle.std.proofs.lemmas.List.{append-nil}
use Rattle.pdb_base.specs.declared.error.Error.{Error}
use Rattle.pdb_base.specs.Refusal.{◌>>=◌}
use Rattle.pdb_base.specs.Layouts.{Part, list_at}

-- what was read before, and what is still read
abbrev pub with_front : {A : Type 0} → List A → Result (List A) Error → Result (List A) Error
with_front front read = read >>= λ x. Ok (front ++ x)

regroup : {A : Type 0} (front : List A) (r : A) (read : Result (List A) Error) → with_front front (read >>= λ x. Ok (r ∷ x)) ≡ with_front (front ++ r ∷ []) read
regroup front r (Ok x) = ap Ok (simp append_assoc)
regroup front r (Err f) = refl

module _ {A : Type 0} (part : Part A) (kind : ℕ) (b : List ℕ) (count i p : ℕ) (front : List A) (total : Result (List A) Error) (so_far : with_front front (list_at part (count - i) kind b p) ≡ total) where
  pub goes_on : (r : A) → i < count → part.at kind b p ≡ Ok r → with_front (front ++ r ∷ []) (list_at part (count - (i + 1)) kind b (p + part.width kind b p r)) ≡ total
  goes_on r lt h =
      let k : count - i ≡ suc (count - (i + 1)) = omega arith in
      let one : with_front front (list_at part (count - i) kind b p) ≡ with_front (front ++ r ∷ []) (list_at part (count - (i + 1)) kind b (p + part.width kind b p r)) = rw (k, h) (regroup front r (list_at part (count - (i + 1)) kind b (p + part.width kind b p r))) in
      sym one ∙ so_far

  pub refuses : (e : Error) → i < count → part.at kind b p ≡ Err e → total ≡ Err e
  refuses e lt h =
      let k : count - i ≡ suc (count - (i + 1)) = omega arith in
      let one : with_front front (list_at part (count - i) kind b p) ≡ Err e = rw (k, h) refl in
      sym so_far ∙ one

  pub is_done : count ≤ i → total ≡ Ok front
  is_done le =
      let k : count - i ≡ 0 = omega arith in
      let one : with_front front (list_at part (count - i) kind b p) ≡ Ok front = rw k (ap Ok (append-nil front)) in
      sym so_far ∙ one
