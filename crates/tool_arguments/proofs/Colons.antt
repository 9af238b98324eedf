-- The last colon of a word, and words that no text is.
use Rattle.std.proofs.Common.{◌≡◌, ℕ, zero, suc, ◌+◌, ◌<◌, List, [], ◌∷◌, length, true, ◌&&◌, ◌==◌, nat_lt, nat_le, Option, Some, None, refl, sym, ap, arith, All}
use Rattle.std.proofs.lemmas.Bool.{false_from_ne_true, and_parts, leb-true}
use Rattle.std.proofs.lemmas.Str.{IsUtf8-from_ascii}
use Rattle.std.proofs.lemmas.Str.Ascii.{IsAscii-from_all}
use Rattle.std.specs.Char.{is_ascii_digit}
use Rattle.std.specs.List.{list_all}
use Rattle.std.specs.Str.{IsUtf8}
use Rattle.bstr.specs.Find.{IsLastByte, Nowhere, Passes, is_byte}
use Rattle.pdb_text.specs.Numbers.{is_short_numeral, long_number_in}
use Rattle.tool_arguments.specs.SourcesAsked.{last_colon}

-- ---- the last colon

no_colon : (word : List ℕ) → Nowhere (Passes (is_byte 58) word) 0 (length word) → last_colon word ≡ None
no_colon [] h = refl
no_colon (b ∷ word) h = rw (no_colon word (λ k l u. h (suc k) (omega arith) (omega (arith, u))), false_from_ne_true (b == 58) (h 0 (omega arith) (omega arith))) refl

one_more : (k : ℕ) → k + 1 ≡ suc k
one_more k = omega arith

one_colon : (word : List ℕ) (at : ℕ) → at < length word → Passes (is_byte 58) word at → Nowhere (Passes (is_byte 58) word) (at + 1) (length word) → last_colon word ≡ Some at
one_colon [] at lt p h = absurd (omega (arith, lt))
one_colon (b ∷ word) zero lt p h = rw (no_colon word (λ k l u. h (suc k) (omega arith) (omega (arith, u))), p) refl
one_colon (b ∷ word) (suc at) lt p h = rw (one_colon word at (omega (arith, lt)) p (λ k l u. h (suc k) (omega (arith, l)) (omega (arith, u)))) (ap Some (one_more at))

pub last_is : (word : List ℕ) (r : Option ℕ) → IsLastByte (is_byte 58) word r → r ≡ last_colon word
last_is word None h = sym (no_colon word h)
last_is word (Some at) h = sym (one_colon word at h.0.high h.1 h.0.after)

-- ---- digits are text

below : (b : ℕ) → is_ascii_digit b ≡ true → b < 128
below b h = let high = leb-true b 57 (and_parts (nat_le 48 b) (nat_le b 57) h).1 in omega (arith, high)

all_below : (word : List ℕ) → list_all is_ascii_digit word ≡ true → All (λ b. b < 128) word
all_below [] h k d lt = absurd (omega (arith, lt))
all_below (b ∷ word) h zero d lt = below b (and_parts (is_ascii_digit b) (list_all is_ascii_digit word) h).0
all_below (b ∷ word) h (suc k) d lt = all_below word (and_parts (is_ascii_digit b) (list_all is_ascii_digit word) h).1 k d (omega (arith, lt))

pub no_number : (word : List ℕ) → (IsUtf8 word → ⊥) → None ≡ long_number_in word
unfolding long_number_in
no_number word broken =
    let other = false_from_ne_true (is_short_numeral word) (λ e. broken (IsUtf8-from_ascii word (IsAscii-from_all word (all_below word (and_parts (nat_lt 0 (length word) && nat_le (length word) 10) (list_all is_ascii_digit word) e).1)))) in
    rw other refl
