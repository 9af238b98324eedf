-- A text of digits is text, and the number that is read of it is the one that they write.
use Rattle.std.proofs.Common.{◌≡◌, ℕ, ◌<◌, ◌^◌, List, [], ◌∷◌, length, Bool, true, false, ◌&&◌, ◌==◌, Some, None, Result, Ok, Err, refl, ap, arith, nat_lt, nat_le, cond, ltb-true, ltb-false}
use Rattle.std.proofs.lemmas.Bool.{and_parts}
use Rattle.std.proofs.lemmas.Bool.Decides.{nat_tests}
use Rattle.std.proofs.lemmas.List.Sums.{AllPass-from_list_all}
use Rattle.std.proofs.lemmas.Str.{IsUtf8-from_ascii}
use Rattle.std.proofs.lemmas.Str.Ascii.{IsAscii-from_all}
use Rattle.std.specs.Char.{digit_value, is_ascii_digit}
use Rattle.std.specs.List.{list_all}
use Rattle.std.specs.Result.{OkIff, result_ok}
use Rattle.std.specs.Str.{IsUtf8}
use Rattle.std.specs.Str.Parse.{AllDigits, IsNumeral, ParsesUnsigned, digits_value, without_leading_plus}
use Rattle.pdb_stacks.specs.DecimalTexts.{is_decimal, decimal_in}

record DecimalByte (b : ℕ) : Type 0 where
  pub ascii : b < 128
  pub digit : digit_value b < 10
  pub no_plus : (b == 43) ≡ false

decimal_byte : (b : ℕ) → is_ascii_digit b ≡ true → DecimalByte b
decimal_byte b h = record {
  ascii = grind (arith, nat_tests);
  digit = grind (arith, nat_tests);
  no_plus = grind (arith, nat_tests);
}

-- it is text
pub digits_are_text : (word : List ℕ) → is_decimal word ≡ true → IsUtf8 word
digits_are_text word h =
    let parts = and_parts (nat_lt 0 (length word) && nat_le (length word) 10) (list_all is_ascii_digit word) h in
    let all = AllPass-from_list_all is_ascii_digit word parts.1 in
    IsUtf8-from_ascii word (IsAscii-from_all word (λ k d lt. (decimal_byte _ (all k d lt)).ascii))

all_digits : (word : List ℕ) → list_all is_ascii_digit word ≡ true → AllDigits 10 word
all_digits [] h = tt
all_digits (c ∷ cs) h =
    let parts = and_parts (is_ascii_digit c) (list_all is_ascii_digit cs) h in
    ((decimal_byte c parts.0).digit, all_digits cs parts.1)

bare : (word : List ℕ) → is_decimal word ≡ true → without_leading_plus word ≡ word
bare [] h = absurd cc
bare (c ∷ cs) h =
    let parts = and_parts (nat_lt 0 (length (c ∷ cs)) && nat_le (length (c ∷ cs)) 10) (list_all is_ascii_digit (c ∷ cs)) h in
    let first = and_parts (is_ascii_digit c) (list_all is_ascii_digit cs) parts.1 in
    let e = (decimal_byte c first.0).no_plus in
    rw e refl

by_value : {E : Type 0} (r : Result ℕ E) (fits : Bool) (v : ℕ) → nat_lt v 4294967296 ≡ fits → OkIff r (v < 2 ^ 32) v → result_ok r ≡ cond fits (Some v) None
by_value (Ok x) true v f h = ap Some h.1
by_value (Ok x) false v f h = let n = ltb-false v 4294967296 f in absurd (omega (arith, h.0, n))
by_value (Err x) true v f h = absurd (h (ltb-true v 4294967296 f))
by_value (Err x) false v f h = refl

read : {E : Type 0} (word : List ℕ) (r : Result ℕ E) → IsNumeral 10 word → OkIff r (IsNumeral 10 word × (digits_value 10 word < 2 ^ 32)) (digits_value 10 word) → OkIff r (digits_value 10 word < 2 ^ 32) (digits_value 10 word)
read word (Ok x) n q = (q.0.1, q.1)
read word (Err e) n q = λ h. q (n, h)

pub decimal_read : {E : Type 0} (word : List ℕ) (r : Result ℕ E) → ParsesUnsigned 32 10 word r → is_decimal word ≡ true → result_ok r ≡ decimal_in word
unfolding decimal_in
decimal_read word r p h =
    let parts = and_parts (nat_lt 0 (length word) && nat_le (length word) 10) (list_all is_ascii_digit word) h in
    let some = and_parts (nat_lt 0 (length word)) (nat_le (length word) 10) parts.0 in
    let numeral : IsNumeral 10 word = (ltb-true 0 (length word) some.0, all_digits word parts.1) in
    let q = rw (bare word h) at p in
    rw h (by_value r (nat_lt (digits_value 10 word) 4294967296) (digits_value 10 word) refl (read word r numeral q))
