-- Numbers in a part of a list of bytes.
use Rattle.std.proofs.Common.{◌≡◌, ◌⊎◌, inl, inr, ℕ, ◌+◌, ◌-◌, ◌*◌, ◌<◌, ◌≤◌, false, List, [], ◌∷◌, ◌++◌, length, get_or, take, drop, Ok, refl, sym, ap, ◌∙◌, arith, ltb}
use Rattle.std.proofs.Math.ListN.{get_or-append}
use Rattle.std.proofs.Math.Seq.{get_or-append_seam}
use Rattle.std.proofs.lemmas.List.{length-append}
use Rattle.std.proofs.lemmas.Bool.{cases_lt}
use Rattle.std.specs.List.{sum_by, range_with_len}
use Rattle.std.specs.Int.{div_ceil}
use Rattle.std.proofs.lemmas.Bool.{le-ltb}
use Rattle.std.proofs.Math.Bool.{and-false}
use Rattle.std.proofs.lemmas.List.{ext_get_or, get_or-take, get_or-drop}
use Rattle.std.proofs.lemmas.List.Sums.{sum_by-append}
use Rattle.pdb_base.specs.Fields.{number}
use Rattle.pdb_base.specs.Container.{numbers, numbers_at, pages_at, pages_of}
use Rattle.pdb_base.proofs.Ranges.{range-split}
use Rattle.pdb_base.proofs.PageLemmas.{length-numbers, get_or-numbers}

pub number-same : (a b : List ℕ) (p q : ℕ) → ((i : ℕ) → i < 4 → get_or a (p + i) 0 ≡ get_or b (q + i) 0) → number a p 4 ≡ number b q 4
unfolding number
number-same a b p q h = rw (h 0 (omega arith), h 1 (omega arith), h 2 (omega arith), h 3 (omega arith)) refl

-- numbers of a part are numbers of the whole
pub numbers-part : (bytes : List ℕ) (p count : ℕ) → numbers (take (4 * count) (drop p bytes)) 0 count ≡ numbers bytes p count
numbers-part bytes p count =
    ext_get_or 0 _ _ (length-numbers (take (4 * count) (drop p bytes)) 0 count ∙ sym (length-numbers bytes p count))
    (λ k h.
    let lt : k < count = omega (arith, length-numbers (take (4 * count) (drop p bytes)) 0 count) in
    get_or-numbers (take (4 * count) (drop p bytes)) 0 count k lt
    ∙ number-same _ bytes (0 + 4 * k) (p + 4 * k) (λ i l.
    get_or-take (4 * count) (drop p bytes) (0 + 4 * k + i) 0 (omega arith)
    ∙ get_or-drop p bytes (0 + 4 * k + i) 0
    ∙ (let e : p + (0 + 4 * k + i) ≡ p + 4 * k + i = omega arith in ap (λ x. get_or bytes x 0) e))
    ∙ sym (get_or-numbers bytes p count k lt))

pub pages_at-none : (directory : List ℕ) (P n e : ℕ) → div_ceil e P ≡ 0 → pages_at directory P n e ≡ Ok (numbers [] 0 (div_ceil e P))
unfolding pages_at numbers
pages_at-none directory P n e z = rw z refl

pages_at-count : (directory : List ℕ) (P n e at count : ℕ) → at ≡ numbers_at directory P n → div_ceil e P ≡ count → at + 4 * count ≤ length directory → pages_at directory P n e ≡ Ok (numbers (take (at + 4 * count - at) (drop at directory)) 0 count)
unfolding pages_at
pages_at-count directory P n e at count a c le =
    let f : ltb (length directory) (at + 4 * count) ≡ false = le-ltb (length directory) (at + 4 * count) le in
    let d : at + 4 * count - at ≡ 4 * count = omega arith in
    rw (c, ← a, f, d, numbers-part, and-false (ltb 0 count)) refl

pub pages_at-some : (directory : List ℕ) (P n e at : ℕ) → at ≡ numbers_at directory P n → at + 4 * div_ceil e P ≤ length directory → pages_at directory P n e ≡ Ok (numbers (take (at + 4 * div_ceil e P - at) (drop at directory)) 0 (div_ceil e P))
pages_at-some directory P n e at a le = pages_at-count directory P n e at (div_ceil e P) a refl le

pub pages_more : (directory : List ℕ) (P i : ℕ) → sum_by (pages_of directory P) (range_with_len 0 (i + 1)) ≡ sum_by (pages_of directory P) (range_with_len 0 i) + pages_of directory P i
pages_more directory P i =
    ap (sum_by (pages_of directory P)) (range-split 0 i 1) ∙ sum_by-append (pages_of directory P) (range_with_len 0 i) (range_with_len (0 + i) 1) ∙ one
  where
    one : sum_by (pages_of directory P) (range_with_len 0 i) + sum_by (pages_of directory P) (range_with_len (0 + i) 1) ≡ sum_by (pages_of directory P) (range_with_len 0 i) + pages_of directory P i
    one = let e : 0 + i ≡ i = omega arith in rw e (omega arith)

-- what holds of each element and of one more holds of each of the longer list
pub each_pushed : (P : ℕ → ℕ → Type 0) (xs ys : List ℕ) (x : ℕ) → ys ≡ xs ++ x ∷ [] → ((k : ℕ) → k < length xs → P k (get_or xs k 0)) → P (length xs) x → (k : ℕ) → k < length ys → P k (get_or ys k 0)
each_pushed P xs ys x e before here k h = rw e (at_place (cases_lt k (length xs)))
  where
    n : length ys ≡ length xs + 1
    n = ap length e ∙ simp length-append (omega arith)

    at_place : (k < length xs) ⊎ (length xs ≤ k) → P k (get_or (xs ++ x ∷ []) k 0)
    at_place (inl lt) = rw (get_or-append xs (x ∷ []) 0 k lt) (before k lt)
    at_place (inr le) = let is : k ≡ length xs = omega (arith, n) in rw (is, get_or-append_seam xs x [] 0) here
