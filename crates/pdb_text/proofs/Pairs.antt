-- Digits by tables of pairs.
use Rattle.std.proofs.Common.{◌≡◌, ℕ, zero, suc, ◌+◌, ◌-◌, ◌/◌, ◌%◌, ◌^◌, ◌<◌, ◌≤◌, Bool, true, ◌&&◌, T, eqb, List, [], ◌∷◌, ◌++◌, get_or, refl, ap, ◌∙◌, inl, inr, arith, eq-zero-or-pos, eqb→eq, append_assoc}
use Rattle.std.proofs.Common.{false, nat_lt, w16, drop}
use Rattle.std.specs.Int.{to_le_bytes}
use Rattle.std.proofs.lemmas.Bool.{cases_lt}
use Rattle.std.proofs.lemmas.Bool.Decides.{nat_tests}
use lib.Ieee.Fits.{and_l, and_r}
use Rattle.std.proofs.lemmas.Fmt.{decimal_digit, decimal_step}
use Rattle.std.specs.Fmt.{decimal}
use Rattle.pdb_text.specs.Digits.{hex_digit, hex, hex_length, short_hex, four_digits}
use Rattle.pdb_text.specs.declared.digits.TheConstants.{HEX_PAIRS, DECIMAL_PAIRS}

digit_small : (d : ℕ) → d < 16 → hex_digit d < 256
digit_small d h = elim (cases_lt d 10) [
  | inl l ↦ (let b : nat_lt d 10 ≡ true = grind (arith, nat_tests) in rw b (omega arith))
  | inr g ↦ (let b : nat_lt d 10 ≡ false = grind (arith, nat_tests) in rw b (omega arith))
]

abbrev are_hex : ℕ → Bool
are_hex zero = true
are_hex (suc p) = (eqb (get_or HEX_PAIRS p 0 % 256) (hex_digit (p / 16)) && eqb (get_or HEX_PAIRS p 0 / 256) (hex_digit (p % 16))) && are_hex p

hex_below : (n p : ℕ) → T (are_hex n) → p < n → (get_or HEX_PAIRS p 0 % 256 ≡ hex_digit (p / 16)) × (get_or HEX_PAIRS p 0 / 256 ≡ hex_digit (p % 16))
hex_below zero p t h = absurd (omega arith)
hex_below (suc n) p t h =
    elim (eq-zero-or-pos (n - p)) [
      | inl z ↦ let e : p ≡ n = omega arith in let a = and_l _ (are_hex n) t in rw e (eqb→eq _ _ (and_l _ _ a), eqb→eq _ _ (and_r _ _ a))
      | inr g ↦ hex_below n p (and_r _ (are_hex n) t) (omega arith)
    ]

pub hex_pair : (p : ℕ) → p < 256 → (get_or HEX_PAIRS p 0 % 256 ≡ hex_digit (p / 16)) × (get_or HEX_PAIRS p 0 / 256 ≡ hex_digit (p % 16))
hex_pair p h = hex_below 256 p tt h

pub hex_two : (p : ℕ) → p < 256 → (get_or HEX_PAIRS p 0 % 256 ∷ get_or HEX_PAIRS p 0 / 256 ∷ []) ≡ hex 2 p
unfolding hex
hex_two p h =
    let t = hex_pair p h in
    let a : p / 16 ≡ p / 16 % 16 = omega arith in
    let b : p % 16 ≡ p / 1 % 16 = omega arith in
    rw (t.0, t.1) cc

pub hex_word : (p : ℕ) → p < 256 → to_le_bytes w16 (get_or HEX_PAIRS p 0) ≡ hex 2 p
hex_word p h =
    let t = hex_pair p h in
    let small : get_or HEX_PAIRS p 0 / 256 < 256 = rw t.1 (digit_small (p % 16) (omega arith)) in
    let e : get_or HEX_PAIRS p 0 / 256 % 256 ≡ get_or HEX_PAIRS p 0 / 256 = omega arith in
    ap (λ (x : ℕ). get_or HEX_PAIRS p 0 % 256 ∷ x ∷ []) e ∙ hex_two p h

pub hex_eight : (n : ℕ) (a b c d : List ℕ) → n < 2 ^ 32 → a ≡ hex 2 (n / 2 ^ 24) → b ≡ hex 2 (n / 2 ^ 16 % 256) → c ≡ hex 2 (n / 2 ^ 8 % 256) → d ≡ hex 2 (n % 256)
    → (get_or a 0 0 ∷ get_or a 1 0 ∷ get_or b 0 0 ∷ get_or b 1 0 ∷ get_or c 0 0 ∷ get_or c 1 0 ∷ get_or d 0 0 ∷ get_or d 1 0 ∷ []) ≡ hex 8 n
unfolding hex
hex_eight n a b c d h ea eb ec ed =
    let p : n / 16777216 / 16 % 16 ≡ n / 268435456 % 16 = omega arith in
    let q : n / 65536 % 256 / 16 % 16 ≡ n / 1048576 % 16 = omega arith in
    let r : n / 65536 % 256 / 1 % 16 ≡ n / 65536 % 16 = omega arith in
    let s : n / 256 % 256 / 16 % 16 ≡ n / 4096 % 16 = omega arith in
    let t : n / 256 % 256 / 1 % 16 ≡ n / 256 % 16 = omega arith in
    let u : n % 256 / 16 % 16 ≡ n / 16 % 16 = omega arith in
    let v : n % 256 / 1 % 16 ≡ n / 1 % 16 = omega arith in
    let w : n / 16777216 / 1 % 16 ≡ n / 16777216 % 16 = omega arith in
    rw (ea, eb, ec, ed) (cc)

abbrev are_decimal : ℕ → Bool
are_decimal zero = true
are_decimal (suc p) = (eqb (get_or DECIMAL_PAIRS p 0 % 256) (48 + p / 10) && eqb (get_or DECIMAL_PAIRS p 0 / 256) (48 + p % 10)) && are_decimal p

decimal_below : (n p : ℕ) → T (are_decimal n) → p < n → (get_or DECIMAL_PAIRS p 0 % 256 ≡ 48 + p / 10) × (get_or DECIMAL_PAIRS p 0 / 256 ≡ 48 + p % 10)
decimal_below zero p t h = absurd (omega arith)
decimal_below (suc n) p t h =
    elim (eq-zero-or-pos (n - p)) [
      | inl z ↦ let e : p ≡ n = omega arith in let a = and_l _ (are_decimal n) t in rw e (eqb→eq _ _ (and_l _ _ a), eqb→eq _ _ (and_r _ _ a))
      | inr g ↦ decimal_below n p (and_r _ (are_decimal n) t) (omega arith)
    ]

pub decimal_pair : (p : ℕ) → p < 100 → (get_or DECIMAL_PAIRS p 0 % 256 ≡ 48 + p / 10) × (get_or DECIMAL_PAIRS p 0 / 256 ≡ 48 + p % 10)
decimal_pair p h = decimal_below 100 p tt h

pub decimal_word : (p : ℕ) → p < 100 → to_le_bytes w16 (get_or DECIMAL_PAIRS p 0) ≡ (48 + p / 10) ∷ (48 + p % 10) ∷ []
decimal_word p h =
    let t = decimal_pair p h in
    let small : get_or DECIMAL_PAIRS p 0 / 256 < 256 = rw t.1 (omega arith) in
    let e : get_or DECIMAL_PAIRS p 0 / 256 % 256 ≡ get_or DECIMAL_PAIRS p 0 / 256 = omega arith in
    ap (λ (x : ℕ). get_or DECIMAL_PAIRS p 0 % 256 ∷ x ∷ []) e ∙ rw (t.0, t.1) refl

-- a number of two digits, of three, of four, and of more
pub decimal_two : (n : ℕ) → 10 ≤ n → n < 100 → decimal n ≡ (48 + n / 10) ∷ (48 + n % 10) ∷ []
decimal_two n lo hi = rw (decimal_step n lo (omega arith), decimal_digit (n / 10) (omega arith))

decimal_behind : (n : ℕ) → 100 ≤ n → n < 2 ^ 64 → decimal n ≡ decimal (n / 100) ++ ((48 + n % 100 / 10) ∷ (48 + n % 100 % 10) ∷ [])
decimal_behind n lo hi =
    let a : n / 10 / 10 ≡ n / 100 = omega arith in
    let b : n / 10 % 10 ≡ n % 100 / 10 = omega arith in
    let c : n % 10 ≡ n % 100 % 10 = omega arith in
    rw (decimal_step n (omega arith) hi, decimal_step (n / 10) (omega arith) (omega arith), append_assoc, a, b, ← c)

pub decimal_three : (n : ℕ) → 100 ≤ n → n < 1000 → decimal n ≡ (48 + n / 100) ∷ (48 + n % 100 / 10) ∷ (48 + n % 100 % 10) ∷ []
decimal_three n lo hi = rw (decimal_behind n lo (omega arith), decimal_digit (n / 100) (omega arith))

pub decimal_of_four : (n : ℕ) → 1000 ≤ n → n < 10000 → decimal n ≡ four_digits n
decimal_of_four n lo hi = rw (decimal_behind n (omega arith) (omega arith), decimal_two (n / 100) (omega arith) (omega arith)) refl

pub decimal_more : (n : ℕ) → 10000 ≤ n → n < 2 ^ 64 → decimal n ≡ decimal (n / 10000) ++ four_digits (n % 10000)
decimal_more n lo hi =
    let a : n / 100 / 100 ≡ n / 10000 = omega arith in
    let b : n / 100 % 100 ≡ n % 10000 / 100 = omega arith in
    let c : n % 100 ≡ n % 10000 % 100 = omega arith in
    rw (decimal_behind n (omega arith) hi, decimal_behind (n / 100) (omega arith) (omega arith), append_assoc, a, b, ← c)

-- ---- the last digits of a number in base 16

dropped_digits : (j k m n : ℕ) → m ≡ j + k → drop j (hex m n) ≡ hex k n
unfolding hex
dropped_digits zero k m n e = let s : m ≡ k = omega arith in rw s refl
dropped_digits (suc j) k m n e = let s : m ≡ suc (j + k) = omega arith in rw s (dropped_digits j k (j + k) n refl)

pub last_digits : (k n : ℕ) (digits : List ℕ) → digits ≡ hex 8 n → k ≡ hex_length n → k ≤ 8 → drop (8 - k) digits ≡ short_hex n
unfolding short_hex
last_digits k n digits all long most = rw (all, ← long) (dropped_digits (8 - k) k 8 n (omega arith))
