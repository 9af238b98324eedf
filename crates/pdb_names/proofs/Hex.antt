-- Numbers of hex digits, one more at a time.
use Rattle.std.proofs.Common.{◌≡◌, ℕ, zero, suc, ◌+◌, ◌-◌, ◌*◌, ◌^◌, ◌<◌, ◌≤◌, List, [], ◌∷◌, length, get_or, take, sym, ap, ◌∙◌, arith, subst}
use Rattle.std.specs.Prelude.{true}
use Rattle.std.specs.List.{list_all}
use Rattle.std.proofs.Math.Nat.{pow-suc, pow-le-pow_right}
use Rattle.std.proofs.lemmas.Grind.{common_steps}
use Rattle.std.proofs.lemmas.List.Sums.{fold_more}
use Rattle.pdb_names.specs.Numbers.{hex_number, is_letter, with_letter}

-- the number so far, which is as small as its digits are few
pub record SoFar (letters : List ℕ) (i number : ℕ) : Type 0 where
  pub is : number ≡ hex_number (take i letters)
  pub small : number < 16 ^ i

letter_small : (b : ℕ) → is_letter b ≡ true → b - 65 < 16
letter_small b e = grind (arith, common_steps)

all_at : (s : List ℕ) (i : ℕ) → list_all is_letter s ≡ true → i < length s → is_letter (get_or s i 0) ≡ true
all_at [] i e lt = absurd (omega arith)
all_at (b ∷ s) zero e lt = grind (arith, common_steps)
all_at (b ∷ s) (suc i) e lt =
    let rest : list_all is_letter s ≡ true = grind (arith, common_steps) in
    all_at s i rest (omega arith)

more_small : (n d p : ℕ) → n < p → d < 16 → n * 16 + d < p * 16
more_small n d p lt few = omega arith

pub room : (i n : ℕ) → n < 16 ^ i → i < 16 → n * 16 + 15 < 2 ^ 64
room i n lt few =
    let some : 0 < 16 = omega arith in
    let fewer : i ≤ 15 = omega arith in
    let most : 16 ^ i ≤ 16 ^ 15 = pow-le-pow_right {n = 16} some {i = i} {j = 15} fewer in
    omega (arith, lt, most)

pub digit_at : (s : List ℕ) (i : ℕ) → list_all is_letter s ≡ true → i < length s → get_or s i 0 - 65 < 16
digit_at s i e lt = letter_small (get_or s i 0) (all_at s i e lt)

grows : (i : ℕ) → 16 ^ (i + 1) ≡ 16 ^ i * 16
grows i = let same : i + 1 ≡ suc i = omega arith in ap (λ k. 16 ^ k) same ∙ pow-suc 16 i

pub letter_more : (s : List ℕ) (i n : ℕ) → list_all is_letter s ≡ true → i < length s → SoFar s i n → SoFar s (i + 1) (n * 16 + (get_or s i 0 - 65))
letter_more s i n e lt so = record {
  is = ap (λ m. with_letter m (get_or s i 0)) so.is ∙ sym (fold_more with_letter 0 s i 0 lt);
  small = let P : ℕ → Type 0 = λ m. n * 16 + (get_or s i 0 - 65) < m in subst P (sym (grows i)) (more_small n (get_or s i 0 - 65) (16 ^ i) so.small (digit_at s i e lt));
}
