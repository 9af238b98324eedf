-- The procedure of an index is found by halving, and is the one that covers the place.
use Rattle.std.proofs.Common.{◌≡◌, ◌==◌, ℕ, zero, suc, ◌<◌, ◌≤◌, List, [], ◌∷◌, length, get_or, map, find, Option, Some, None, Bool, true, false, cond, refl, sym, ap, subst, ◌∙◌, arith}
use Rattle.std.proofs.lemmas.Bool.{eq-eqb, ne_eqb, ltb-true, ltb-false}
use Rattle.std.proofs.lemmas.List.Sorted.{IsPartitionedBy-ltb}
use Rattle.std.specs.Prelude.{nat_lt}
use Rattle.std.specs.Option.{option_map}
use Rattle.std.specs.List.Sorted.{IsPartitionPoint, IsPartitionedBy}
use Rattle.pdb.specs.PdbInternalSectionOffset.{PdbInternalSectionOffset}
use Rattle.pdb_code.specs.declared.procedures.ListedProcedure.{ListedProcedure}
use Rattle.pdb_places.specs.Pieces.{Code, code_covers, index_of}
use Rattle.pdb_code.specs.Listed.{shown_procedure, number_of, AreNumbersRising, listed_with}
use Rattle.pdb_code.proofs.Scopes.{AboveCode, CodesRise}

-- ---- at the first place of a number that isn't less stands its procedure, if there is one

none_with : (i : ℕ) (ps : List ListedProcedure) → ((k : ℕ) (d : ListedProcedure) → k < length ps → i < number_of (get_or ps k d)) → listed_with ps i ≡ None
none_with i [] above = refl
none_with i (p ∷ ps) above =
    let a = above 0 p (omega arith) in
    ap (λ (b : Bool). cond b (Some p) (listed_with ps i)) (ne_eqb (number_of p) i (λ e. absurd (omega arith)))
    ∙ none_with i ps (λ k d l. above (suc k) d (omega arith))

-- what halving found
pub record IsAt (i : ℕ) (ps : List ListedProcedure) (at : ℕ) : Type 0 where
  pub below : (k : ℕ) (d : ListedProcedure) → k < at → number_of (get_or ps k d) < i
  pub from : (k : ℕ) (d : ListedProcedure) → at ≤ k → k < length ps → i ≤ number_of (get_or ps k d)
  pub up : AreNumbersRising ps

tail : (i : ℕ) (p : ListedProcedure) (ps : List ListedProcedure) (at : ℕ) → IsAt i (p ∷ ps) (suc at) → IsAt i ps at
tail i p ps at h = record {
  below = λ k d l. h.below (suc k) d (omega arith);
  from = λ k d l m. h.from (suc k) d (omega arith) (omega arith);
  up = λ j k d l m. h.up (suc j) (suc k) d (omega arith) (omega arith);
}

-- none, where nothing stands there
pub none_there : (i : ℕ) (ps : List ListedProcedure) (at : ℕ) → IsAt i ps at → length ps ≤ at → listed_with ps i ≡ None
none_there i [] at h l = refl
none_there i (p ∷ ps) zero h l = absurd (omega arith)
none_there i (p ∷ ps) (suc at) h l =
    let b = h.below 0 p (omega arith) in
    ap (λ (b : Bool). cond b (Some p) (listed_with ps i)) (ne_eqb (number_of p) i (λ e. absurd (omega arith)))
    ∙ none_there i ps at (tail i p ps at h) (omega arith)

is_above : (a b : ℕ) → a ≤ b → (a ≡ b → ⊥) → a < b
is_above a b l n = by_test (nat_lt a b) refl
  where
    by_test : (t : Bool) → nat_lt a b ≡ t → a < b
    by_test true e = ltb-true a b e
    by_test false e = let m = ltb-false a b e in absurd (n (omega arith))

pub none_other : (i : ℕ) (ps : List ListedProcedure) (at : ℕ) (y : ListedProcedure) → IsAt i ps at → at < length ps → get_or ps at y ≡ y → (number_of y ≡ i → ⊥) → listed_with ps i ≡ None
none_other i [] at y h l e n = absurd (omega arith)
none_other i (p ∷ ps) zero y h l e n =
    let f = h.from 0 p (omega arith) (omega arith) in
    let s : number_of p ≡ number_of y = ap number_of e in
    let above = is_above i (number_of p) f (λ same. n (sym s ∙ sym same)) in
    none_with i (p ∷ ps) (λ k d m. let u = h.up 0 k d (omega arith) m in omega arith)
none_other i (p ∷ ps) (suc at) y h l e n =
    let b = h.below 0 p (omega arith) in
    ap (λ (b : Bool). cond b (Some p) (listed_with ps i)) (ne_eqb (number_of p) i (λ e. absurd (omega arith)))
    ∙ none_other i ps at y (tail i p ps at h) (omega arith) e n

pub found_there : (i : ℕ) (ps : List ListedProcedure) (at : ℕ) (y : ListedProcedure) → IsAt i ps at → at < length ps → get_or ps at y ≡ y → number_of y ≡ i → listed_with ps i ≡ Some y
found_there i [] at y h l e n = absurd (omega arith)
found_there i (p ∷ ps) zero y h l e n = rw e (ap (λ (b : Bool). cond b (Some y) (listed_with ps i)) (eq-eqb (number_of y) i n))
found_there i (p ∷ ps) (suc at) y h l e n =
    let b = h.below 0 p (omega arith) in
    ap (λ (b : Bool). cond b (Some p) (listed_with ps i)) (ne_eqb (number_of p) i (λ e. absurd (omega arith)))
    ∙ found_there i ps at y (tail i p ps at h) (omega arith) e n

abbrev pub less : ℕ → ListedProcedure → Bool
less i p = nat_lt (number_of p) i

pub is_at : (i : ℕ) (ps : List ListedProcedure) (at : ℕ) → AreNumbersRising ps → (IsPartitionedBy (less i) ps → IsPartitionPoint (λ x. less i x ≡ true) (λ x. less i x ≡ false) ps at) → IsAt i ps at
is_at i ps at up by_point =
    let point = by_point (IsPartitionedBy-ltb number_of ps i up) in record {
      below = λ k d l. ltb-true (number_of (get_or ps k d)) i (point.0 k d (omega arith) l);
      from = λ k d l m. ltb-false (number_of (get_or ps k d)) i (point.1 k d l m);
      up = up;
    }

-- ---- the one that covers a place is the first of its index

-- what is found behind a number has a greater one
above_found : (q : PdbInternalSectionOffset) (n : ℕ) (cs : List Code) (c : Code) → AboveCode n cs → find (code_covers q) cs ≡ Some c → n < c.index
above_found q n [] c a f = absurd cc
above_found q n (x ∷ cs) c a f = by_test (code_covers q x) f (above_found q n cs c a.1)
  where
    by_test : (b : Bool) → cond b (Some x) (find (code_covers q) cs) ≡ Some c → (find (code_covers q) cs ≡ Some c → n < c.index) → n < c.index
    by_test true g rest = let same : x ≡ c = cc in subst (λ (y : Code). n < y.index) same a.0
    by_test false g rest = rest g

first_of_index : (q : PdbInternalSectionOffset) (cs : List Code) (c : Code) → CodesRise cs → find (code_covers q) cs ≡ Some c → find (λ d. d.index == c.index) cs ≡ Some c
first_of_index q [] c r e = absurd cc
first_of_index q (d ∷ cs) c r e = by_test (code_covers q d) e (first_of_index q cs c r.1)
  where
    by_test : (b : Bool) → cond b (Some d) (find (code_covers q) cs) ≡ Some c → (find (code_covers q) cs ≡ Some c → find (λ d. d.index == c.index) cs ≡ Some c) → find (λ d. d.index == c.index) (d ∷ cs) ≡ Some c
    by_test true g rest =
        let same : d ≡ c = cc in
        ap (λ (b : Bool). cond b (Some d) (find (λ d. d.index == c.index) cs)) (eq-eqb d.index c.index (ap index_of same)) ∙ g
    by_test false g rest =
        let lower = above_found q d.index cs c r.0 g in
        ap (λ (b : Bool). cond b (Some d) (find (λ d. d.index == c.index) cs)) (ne_eqb d.index c.index (λ same. absurd (omega arith)))
        ∙ rest g

shown_found : (i : ℕ) (ps : List ListedProcedure) → option_map shown_procedure (listed_with ps i) ≡ find (λ d. d.index == i) (map shown_procedure ps)
shown_found i [] = refl
shown_found i (p ∷ ps) = by_test (p.index == i) (shown_found i ps)
  where
    by_test : (b : Bool) → option_map shown_procedure (listed_with ps i) ≡ find (λ d. d.index == i) (map shown_procedure ps)
        → option_map shown_procedure (cond b (Some p) (listed_with ps i)) ≡ cond b (Some (shown_procedure p)) (find (λ d. d.index == i) (map shown_procedure ps))
    by_test true h = refl
    by_test false h = h

-- the procedure of the index that a search for a place finds is the one that is found there
pub procedure_found : (q : PdbInternalSectionOffset) (i : ℕ) (cs : List Code) (ps : List ListedProcedure) → CodesRise cs → map shown_procedure ps ≡ cs → option_map index_of (find (code_covers q) cs) ≡ Some i
    → option_map shown_procedure (listed_with ps i) ≡ find (code_covers q) cs
procedure_found q i cs ps rise same e = by_found (find (code_covers q) cs) refl e
  where
    by_found : (o : Option Code) → find (code_covers q) cs ≡ o → option_map index_of o ≡ Some i → option_map shown_procedure (listed_with ps i) ≡ find (code_covers q) cs
    by_found None f g = absurd cc
    by_found (Some c) f g =
        let number : c.index ≡ i = cc in
        shown_found i ps
        ∙ (ap (find (λ d. d.index == i)) same
        ∙ (ap (λ (n : ℕ). find (λ d. d.index == n) cs) (sym number)
        ∙ (first_of_index q cs c rise f ∙ sym f)))

-- ---- numbers of listed procedures rise

above_listed : (n : ℕ) (ps : List ListedProcedure) (j : ℕ) (d : ListedProcedure) → AboveCode n (map shown_procedure ps) → j < length ps → n < number_of (get_or ps j d)
above_listed n [] j d a l = absurd (omega arith)
above_listed n (p ∷ ps) zero d a l = a.0
above_listed n (p ∷ ps) (suc j) d a l = above_listed n ps j d a.1 (omega arith)

pub numbers_rise : (ps : List ListedProcedure) → CodesRise (map shown_procedure ps) → AreNumbersRising ps
numbers_rise [] r i j d m l = absurd (omega arith)
numbers_rise (p ∷ ps) r zero zero d m l = omega arith
numbers_rise (p ∷ ps) r zero (suc j) d m l = let a = above_listed (number_of p) ps j d r.0 (omega arith) in omega arith
numbers_rise (p ∷ ps) r (suc i) zero d m l = absurd (omega arith)
numbers_rise (p ∷ ps) r (suc i) (suc j) d m l = numbers_rise ps r.1 i j d (omega arith) (omega arith)
