-- The number that a word of digits is.
use Rattle.std.proofs.Common.{◌≡◌, ℕ, ◌<◌, ◌^◌, List, [], ◌∷◌, length, Bool, true, false, ◌&&◌, Some, None, Result, Ok, Err, refl, sym, ap, ◌∙◌, arith, nat_lt, nat_le, cond, ltb-true, ltb-false, leb-true}
use Rattle.std.proofs.lemmas.Bool.{and_parts}
use Rattle.std.specs.Char.{is_ascii_digit}
use Rattle.std.specs.List.{list_all}
use Rattle.std.specs.Result.{OkIff, result_ok}
use Rattle.std.specs.Str.{all_ascii_digits}
use Rattle.std.specs.Str.Parse.{ParsesUnsigned, digits_value}
use Rattle.std.proofs.lemmas.Str.Parse.{parse_digits, digits_value_short, numerals_by_value, tells_all_ascii_digits}
use Rattle.pdb_text.specs.Numbers.{is_short_numeral, long_number_in, number_in}

same_digits : (word : List ℕ) → list_all is_ascii_digit word ≡ all_ascii_digits word
same_digits [] = refl
same_digits (c ∷ cs) = ap (λ b. is_ascii_digit c && b) (same_digits cs)

by_value : {E : Type 0} (r : Result ℕ E) (fits : Bool) (v : ℕ) → nat_lt v 4294967296 ≡ fits → OkIff r (v < 2 ^ 32) v → result_ok r ≡ cond fits (Some v) None
by_value (Ok x) true v f h = ap Some h.1
by_value (Ok x) false v f h = let n = ltb-false v 4294967296 f in absurd (omega (arith, h.0, n))
by_value (Err x) true v f h = absurd (h (ltb-true v 4294967296 f))
by_value (Err x) false v f h = refl

read : {E : Type 0} (word : List ℕ) (r : Result ℕ E) (q : OkIff r ((0 < length word) × (digits_value 10 word < 2 ^ 32)) (digits_value 10 word)) → 0 < length word → OkIff r (digits_value 10 word < 2 ^ 32) (digits_value 10 word)
read word (Ok x) q some = (q.0.1, q.1)
read word (Err e) q some = λ h. q (some, h)

pub number_read : {E : Type 0} (word : List ℕ) (r : Result ℕ E) → ParsesUnsigned 32 10 word r → is_short_numeral word ≡ true → result_ok r ≡ number_in word
unfolding number_in
number_read word r p e =
    let parts = and_parts (nat_lt 0 (length word) && nat_le (length word) 10) (list_all is_ascii_digit word) e in
    let some : 0 < length word = ltb-true 0 (length word) (and_parts (nat_lt 0 (length word)) (nat_le (length word) 10) parts.0).0 in
    let digits = sym (same_digits word) ∙ parts.1 in
    let q = parse_digits (numerals_by_value _ tells_all_ascii_digits) 32 word r p digits in
    rw e (by_value r (nat_lt (digits_value 10 word) 4294967296) (digits_value 10 word) refl (read word r q some))

-- ten digits stay far below 2^64
fitting : {E : Type 0} (r : Result ℕ E) (v : ℕ) → v < 10 ^ 10 → OkIff r (v < 2 ^ 64) v → result_ok r ≡ Some v
fitting (Ok x) v f h = ap Some h.1
fitting (Err x) v f h = absurd (h (omega (arith, f)))

far : {E : Type 0} (word : List ℕ) (r : Result ℕ E) (q : OkIff r ((0 < length word) × (digits_value 10 word < 2 ^ 64)) (digits_value 10 word)) → 0 < length word → OkIff r (digits_value 10 word < 2 ^ 64) (digits_value 10 word)
far word (Ok x) q some = (q.0.1, q.1)
far word (Err e) q some = λ h. q (some, h)

pub long_number_read : {E : Type 0} (word : List ℕ) (r : Result ℕ E) → ParsesUnsigned 64 10 word r → is_short_numeral word ≡ true → result_ok r ≡ long_number_in word
unfolding long_number_in
long_number_read word r p e =
    let parts = and_parts (nat_lt 0 (length word) && nat_le (length word) 10) (list_all is_ascii_digit word) e in
    let lengths = and_parts (nat_lt 0 (length word)) (nat_le (length word) 10) parts.0 in
    let digits = sym (same_digits word) ∙ parts.1 in
    let own = numerals_by_value _ tells_all_ascii_digits in
    let q = parse_digits own 64 word r p digits in
    rw e (fitting r (digits_value 10 word) (digits_value_short own word 10 digits (leb-true (length word) 10 lengths.1)) (far word r q (ltb-true 0 (length word) lengths.0)))
