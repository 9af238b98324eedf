-- A text of hex digits is text, and the number that is read of it is the one that they write.
use Rattle.std.proofs.Common.{◌≡◌, ℕ, ◌<◌, ◌^◌, List, [], ◌∷◌, length, Bool, true, false, ◌&&◌, ◌==◌, Some, None, Result, Ok, Err, refl, ap, arith, nat_lt, nat_le, cond, ltb-true, ltb-false}
use Rattle.std.proofs.lemmas.Bool.{and_parts}
use Rattle.std.proofs.lemmas.Bool.Decides.{nat_tests}
use Rattle.std.proofs.lemmas.List.Sums.{AllPass-from_list_all}
use Rattle.std.proofs.lemmas.Str.{IsUtf8-from_ascii}
use Rattle.std.proofs.lemmas.Str.Ascii.{IsAscii-from_all}
use Rattle.std.specs.Char.{digit_value, is_ascii_hexdigit}
use Rattle.std.specs.List.{list_all}
use Rattle.std.specs.Result.{OkIff, result_ok}
use Rattle.std.specs.Str.{IsUtf8}
use Rattle.std.specs.Str.Parse.{AllDigits, IsNumeral, ParsesUnsigned, digits_value, without_leading_plus}
use Rattle.pdb_stacks.specs.HexTexts.{is_hex, hex_in}

record HexByte (b : ℕ) : Type 0 where
  pub ascii : b < 128
  pub digit : digit_value b < 16
  pub no_plus : (b == 43) ≡ false

hex_byte : (b : ℕ) → is_ascii_hexdigit b ≡ true → HexByte b
hex_byte b h = record {
  ascii = grind (arith, nat_tests);
  digit = grind (arith, nat_tests);
  no_plus = grind (arith, nat_tests);
}

-- it is text
pub hex_is_text : (word : List ℕ) → is_hex word ≡ true → IsUtf8 word
hex_is_text word h =
    let parts = and_parts (nat_lt 0 (length word) && nat_le (length word) 16) (list_all is_ascii_hexdigit word) h in
    let all = AllPass-from_list_all is_ascii_hexdigit word parts.1 in
    IsUtf8-from_ascii word (IsAscii-from_all word (λ k d lt. (hex_byte _ (all k d lt)).ascii))

all_digits : (word : List ℕ) → list_all is_ascii_hexdigit word ≡ true → AllDigits 16 word
all_digits [] h = tt
all_digits (c ∷ cs) h =
    let parts = and_parts (is_ascii_hexdigit c) (list_all is_ascii_hexdigit cs) h in
    ((hex_byte c parts.0).digit, all_digits cs parts.1)

bare : (word : List ℕ) → is_hex word ≡ true → without_leading_plus word ≡ word
bare [] h = absurd cc
bare (c ∷ cs) h =
    let parts = and_parts (nat_lt 0 (length (c ∷ cs)) && nat_le (length (c ∷ cs)) 16) (list_all is_ascii_hexdigit (c ∷ cs)) h in
    let first = and_parts (is_ascii_hexdigit c) (list_all is_ascii_hexdigit cs) parts.1 in
    let e = (hex_byte c first.0).no_plus in
    rw e refl

by_value : {E : Type 0} (r : Result ℕ E) (fits : Bool) (v : ℕ) → nat_lt v 18446744073709551616 ≡ fits → OkIff r (v < 2 ^ 64) v → result_ok r ≡ cond fits (Some v) None
by_value (Ok x) true v f h = ap Some h.1
by_value (Ok x) false v f h = let n = ltb-false v 18446744073709551616 f in absurd (omega (arith, h.0, n))
by_value (Err x) true v f h = absurd (h (ltb-true v 18446744073709551616 f))
by_value (Err x) false v f h = refl

read : {E : Type 0} (word : List ℕ) (r : Result ℕ E) → IsNumeral 16 word → OkIff r (IsNumeral 16 word × (digits_value 16 word < 2 ^ 64)) (digits_value 16 word) → OkIff r (digits_value 16 word < 2 ^ 64) (digits_value 16 word)
read word (Ok x) n q = (q.0.1, q.1)
read word (Err e) n q = λ h. q (n, h)

pub hex_read : {E : Type 0} (word : List ℕ) (r : Result ℕ E) → ParsesUnsigned 64 16 word r → is_hex word ≡ true → result_ok r ≡ hex_in word
unfolding hex_in
hex_read word r p h =
    let parts = and_parts (nat_lt 0 (length word) && nat_le (length word) 16) (list_all is_ascii_hexdigit word) h in
    let some = and_parts (nat_lt 0 (length word)) (nat_le (length word) 16) parts.0 in
    let numeral : IsNumeral 16 word = (ltb-true 0 (length word) some.0, all_digits word parts.1) in
    let q = rw (bare word h) at p in
    rw h (by_value r (nat_lt (digits_value 16 word) 18446744073709551616) (digits_value 16 word) refl (read word r numeral q))
