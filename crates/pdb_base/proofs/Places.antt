-- What is read at a place is what stands there.
use Rattle.std.proofs.Common.{◌≡◌, ℕ, ◌+◌, ◌<◌, true, false, List, length, get_or, take, drop, Result, Ok, Err, Option, Some, None, position, refl, sym, ap, ◌∙◌, inl, inr, arith, length-take, length-drop, get_or-drop}
use Rattle.std.specs.Prelude.{◌==◌}
use Rattle.std.specs.List.{position_or_len}
use Rattle.std.proofs.lemmas.Bool.{cases_lt}
use Rattle.std.proofs.lemmas.Bool.Decides.{nat_tests}
use Rattle.std.proofs.lemmas.List.Quantifiers.{position-Some}
use Rattle.std.proofs.lemmas.List.Sums.{position_or_len_is}
use Rattle.pdb_base.specs.declared.error.Error.{Error}
use Rattle.pdb_base.specs.declared.error.Error.TheVariants.{UnexpectedEof}
use Rattle.pdb_base.specs.Refusal.{◌>>=◌}
use Rattle.pdb_base.specs.Fields.{number, number_at, bytes_at, cstring_at, pascal_at, cut_at}
use Rattle.pdb_base.specs.Places.{IsNumber, IsSlice, IsCString, IsPascal}
use Rattle.pdb_base.proofs.Numbers.{number_there, number_not, bytes_there, bytes_not, length_bytes}

-- what is read in two steps
pub bind_ok : {A B : Type 0} (r : Result A Error) (f : A → Result B Error) (y : B) → (r >>= f) ≡ Ok y → (x : A) × (r ≡ Ok x) × (f x ≡ Ok y)
bind_ok (Ok x) f y e = (x, refl, e)
bind_ok (Err d) f y e = absurd cc

-- what a step that may be refused only at the end refuses
abbrev pub OnlyEof : {A : Type 0} → Result A Error → Type 0
OnlyEof r = (e : Error) → r ≡ Err e → e ≡ UnexpectedEof

pub bind_eof : {A B : Type 0} (r : Result A Error) (f : A → Result B Error) → OnlyEof r → ((x : A) → OnlyEof (f x)) → OnlyEof (r >>= f)
bind_eof (Ok x) f h k = k x
bind_eof (Err d) f h k = λ e q. h e cc

pub ok_eof : {A : Type 0} (x : A) → OnlyEof (Ok x)
ok_eof x e q = absurd cc

pub number_is : (b : List ℕ) (p w n : ℕ) → number_at b p w ≡ Ok n → IsNumber b p w n
number_is b p w n e = elim (cases_lt (length b) (p + w)) [
  | inl h ↦ (let k = number_not b p w h in absurd cc)
  | inr h ↦ (let k = number_there b p w (number b p w) h refl in record { there = h; value = cc })
]

pub is_number : (b : List ℕ) (p w n : ℕ) → IsNumber b p w n → number_at b p w ≡ Ok n
is_number b p w n h = number_there b p w n h.there h.value

pub number_eof : (b : List ℕ) (p w : ℕ) → OnlyEof (number_at b p w)
number_eof b p w e q = elim (cases_lt (length b) (p + w)) [
  | inl h ↦ (let k = number_not b p w h in cc)
  | inr h ↦ (let k = number_there b p w (number b p w) h refl in absurd cc)
]

pub slice_is : (b : List ℕ) (p n : ℕ) (s : List ℕ) → bytes_at b p n ≡ Ok s → IsSlice b p n s
slice_is b p n s e = elim (cases_lt (length b) (p + n)) [
  | inl h ↦ (let k = bytes_not b p n h in absurd cc)
  | inr h ↦ (let k = bytes_there b p n h in record { there = h; value = cc })
]

pub is_slice : (b : List ℕ) (p n : ℕ) (s : List ℕ) → IsSlice b p n s → bytes_at b p n ≡ Ok s
is_slice b p n s h = bytes_there b p n h.there ∙ ap Ok (sym h.value)

pub slice_eof : (b : List ℕ) (p n : ℕ) → OnlyEof (bytes_at b p n)
slice_eof b p n e q = elim (cases_lt (length b) (p + n)) [
  | inl h ↦ (let k = bytes_not b p n h in cc)
  | inr h ↦ (let k = bytes_there b p n h in absurd cc)
]

pub pascal_is : (b : List ℕ) (p : ℕ) (s : List ℕ) → pascal_at b p ≡ Ok s → IsPascal b p s
unfolding pascal_at
pascal_is b p s e =
    let (n, counted, rest) = bind_ok (number_at b p 1) (λ n. bytes_at b (p + 1) n) s e in
    let same : length s ≡ n = length_bytes b (p + 1) n s rest in
    record { counted = rw same (number_is b p 1 n counted); value = rw same (slice_is b (p + 1) n s rest) }

pub is_pascal : (b : List ℕ) (p : ℕ) (s : List ℕ) → IsPascal b p s → pascal_at b p ≡ Ok s
unfolding pascal_at
is_pascal b p s h = let e = is_number b p 1 (length s) h.counted in rw e (is_slice b (p + 1) (length s) s h.value)

pub pascal_eof : (b : List ℕ) (p : ℕ) → OnlyEof (pascal_at b p)
unfolding pascal_at
pascal_eof b p = bind_eof (number_at b p 1) (λ n. bytes_at b (p + 1) n) (number_eof b p 1) (λ n. slice_eof b (p + 1) n)

length_front : (xs : List ℕ) (n : ℕ) → n < length xs → length (take n xs) ≡ n
length_front xs n h = simp length-take (omega arith)

is_zero : (x : ℕ) → (x == 0) ≡ true → x ≡ 0
is_zero x h = grind (arith, nat_tests)

no_zero : (x : ℕ) → (x == 0) ≡ false → x ≡ 0 → ⊥
no_zero x h e = grind (arith, nat_tests)

cut_is : (xs : List ℕ) (o : Option ℕ) (s : List ℕ) → cut_at xs o ≡ Ok s → (n : ℕ) × (o ≡ Some n) × (take n xs ≡ s)
cut_is xs None s e = absurd cc
cut_is xs (Some n) s e = (n, refl, cc)

pub cstring_is : (b : List ℕ) (p : ℕ) (s : List ℕ) → cstring_at b p ≡ Ok s → IsCString b p s
unfolding cstring_at
cstring_is b p s e =
    let (n, at, cut) = cut_is (drop p b) (position (λ x. x == 0) (drop p b)) s e in
    let (within, ended, before) = position-Some (λ x. x == 0) (drop p b) n 0 at in
    let same : length s ≡ n = sym (ap length cut) ∙ length_front (drop p b) n within in
    record {
      there = rw same (omega (arith, within, length-drop p b));
      ended = rw same (rw get_or-drop at (is_zero (get_or (drop p b) n 0) ended));
      least = λ i h. let k : i < n = rw same at h in rw get_or-drop at (no_zero (get_or (drop p b) i 0) (before i k));
      value = rw same (sym cut);
    }

position_there : (xs : List ℕ) (n : ℕ) → n < length xs → position_or_len (λ x. x == 0) xs ≡ n → position (λ x. x == 0) xs ≡ Some n
position_there xs n h e = rw (e, position) (grind (arith, nat_tests))

zero_is : (x : ℕ) → x ≡ 0 → (x == 0) ≡ true
zero_is x h = grind (arith, nat_tests)

zero_not : (x : ℕ) → (x ≡ 0 → ⊥) → (x == 0) ≡ false
zero_not x h = grind (arith, nat_tests)

pub is_cstring : (b : List ℕ) (p : ℕ) (s : List ℕ) → IsCString b p s → cstring_at b p ≡ Ok s
unfolding cstring_at
is_cstring b p s h =
    let within : length s < length (drop p b) = simp length-drop (let t = h.there in omega arith) in
    let found = position_or_len_is (λ x. x == 0) (drop p b) (length s) 0 (omega arith)
    (λ k lt. zero_not (get_or (drop p b) k 0) (rw get_or-drop (h.least k lt)))
    (λ _. zero_is (get_or (drop p b) (length s) 0) (rw get_or-drop h.ended)) in
    ap (cut_at (drop p b)) (position_there (drop p b) (length s) within found) ∙ ap Ok (sym h.value)

cut_eof : (xs : List ℕ) (o : Option ℕ) → OnlyEof (cut_at xs o)
cut_eof xs None e q = cc
cut_eof xs (Some n) e q = absurd cc

pub cstring_eof : (b : List ℕ) (p : ℕ) → OnlyEof (cstring_at b p)
unfolding cstring_at
cstring_eof b p = cut_eof (drop p b) (position (λ x. x == 0) (drop p b))
