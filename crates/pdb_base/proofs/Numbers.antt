-- Numbers by their bytes.
use Rattle.std.proofs.Common.{◌≡◌, min, ℕ, ◌+◌, ◌*◌, ◌^◌, ◌<◌, ◌≤◌, List, length, get_or, take, drop, Some, None, position, ap, sym, ◌∙◌, Ok, Err, refl, inl, inr, arith, length-take, length-drop, get_or-drop}
use Rattle.std.proofs.lemmas.Bool.Decides.{nat_tests}
use Rattle.std.specs.Prelude.{◌==◌}
use Rattle.std.proofs.lemmas.List.{drop_all, get_or-take}
use Rattle.std.proofs.lemmas.Bool.{cases_lt}
use Rattle.pdb_base.specs.declared.error.Error.TheVariants.{UnexpectedEof}
use Rattle.pdb_base.specs.Fields.{number, number_at, bytes_at, cut_at, cstring_at}

pub number_there : (b : List ℕ) (p w n : ℕ) → p + w ≤ length b → n ≡ number b p w → number_at b p w ≡ Ok n
unfolding number_at
number_there b p w n h e = grind (arith, nat_tests)

pub number_not : (b : List ℕ) (p w : ℕ) → length b < p + w → number_at b p w ≡ Err UnexpectedEof
unfolding number_at
number_not b p w h = grind (arith, nat_tests)

pub bytes_there : (b : List ℕ) (p n : ℕ) → p + n ≤ length b → bytes_at b p n ≡ Ok (take n (drop p b))
unfolding bytes_at
bytes_there b p n h = grind (arith, nat_tests)

pub bytes_not : (b : List ℕ) (p n : ℕ) → length b < p + n → bytes_at b p n ≡ Err UnexpectedEof
unfolding bytes_at
bytes_not b p n h = grind (arith, nat_tests)

pub number_1 : (b : List ℕ) (p : ℕ) → get_or b p 0 ≡ number b p 1
unfolding number
number_1 b p = grind arith

pub number_2 : (b : List ℕ) (p : ℕ) → get_or b p 0 + get_or b (p + 1) 0 * 256 ≡ number b p 2
unfolding number
number_2 b p = grind arith

pub number_4 : (b : List ℕ) (p : ℕ) → get_or b p 0 + get_or b (p + 1) 0 * 256 + get_or b (p + 2) 0 * 65536 + get_or b (p + 3) 0 * 16777216 ≡ number b p 4
unfolding number
number_4 b p = grind arith

pub number_8 : (b : List ℕ) (p : ℕ) → get_or b p 0 + get_or b (p + 1) 0 * 256 + get_or b (p + 2) 0 * 65536 + get_or b (p + 3) 0 * 16777216
    + get_or b (p + 4) 0 * 256 ^ 4 + get_or b (p + 5) 0 * 256 ^ 5 + get_or b (p + 6) 0 * 256 ^ 6 + get_or b (p + 7) 0 * 256 ^ 7 ≡ number b p 8
unfolding number
number_8 b p = grind arith

-- a number in a beginning
pub number_2-take : (n : ℕ) (b : List ℕ) (p : ℕ) → p + 2 ≤ n → number (take n b) p 2 ≡ number b p 2
unfolding number
number_2-take n b p le = rw (get_or-take n b (p + 0) 0 (omega arith), get_or-take n b (p + 1) 0 (omega arith)) refl

pub number_4-take : (n : ℕ) (b : List ℕ) (p : ℕ) → p + 4 ≤ n → number (take n b) p 4 ≡ number b p 4
unfolding number
number_4-take n b p le = rw (get_or-take n b (p + 0) 0 (omega arith), get_or-take n b (p + 1) 0 (omega arith), get_or-take n b (p + 2) 0 (omega arith), get_or-take n b (p + 3) 0 (omega arith)) refl

byte-drop : (b : List ℕ) (p q i : ℕ) → get_or (drop p b) (q + i) 0 ≡ get_or b (p + q + i) 0
byte-drop b p q i = let same : p + (q + i) ≡ p + q + i = omega arith in rw get_or-drop (ap (λ k. get_or b k 0) same)

number_2-drop : (b : List ℕ) (p q : ℕ) → number (drop p b) q 2 ≡ number b (p + q) 2
unfolding number
number_2-drop b p q = rw (byte-drop b p q 0, byte-drop b p q 1) refl

number_4-drop : (b : List ℕ) (p q : ℕ) → number (drop p b) q 4 ≡ number b (p + q) 4
unfolding number
number_4-drop b p q = rw (byte-drop b p q 0, byte-drop b p q 1, byte-drop b p q 2, byte-drop b p q 3) refl

-- a number in a part is the number at its place in the whole
pub number_2-part : (b : List ℕ) (p n q : ℕ) → q + 2 ≤ n → number (take n (drop p b)) q 2 ≡ number b (p + q) 2
number_2-part b p n q h = number_2-take n (drop p b) q h ∙ number_2-drop b p q

pub number_4-part : (b : List ℕ) (p n q : ℕ) → q + 4 ≤ n → number (take n (drop p b)) q 4 ≡ number b (p + q) 4
number_4-part b p n q h = number_4-take n (drop p b) q h ∙ number_4-drop b p q

pub cstring_there : (b rest name : List ℕ) (p n : ℕ) → rest ≡ drop p b → position (λ x. x == 0) rest ≡ Some n → n < length rest → name ≡ take n rest → (cstring_at b p ≡ Ok name) × (length name ≡ n)
unfolding cstring_at
cstring_there b rest name p n r e h q =
    let k = ap (cut_at (drop p b)) (rw r at e) in
    (k ∙ ap Ok (rw (← r) (sym q)), rw q (simp length-take (omega arith)))

pub cstring_not : (b rest : List ℕ) (p : ℕ) → rest ≡ drop p b → position (λ x. x == 0) rest ≡ None → cstring_at b p ≡ Err UnexpectedEof
unfolding cstring_at
cstring_not b rest p r e = ap (cut_at (drop p b)) (rw r at e)

-- what is read has as many bytes as were asked for
pub length_bytes : (b : List ℕ) (p n : ℕ) (s : List ℕ) → bytes_at b p n ≡ Ok s → length s ≡ n
unfolding bytes_at
length_bytes b p n s e = elim (cases_lt (length b) (p + n)) [
  | inl h ↦ (let k = bytes_not b p n h in cc)
  | inr h ↦ (let k = bytes_there b p n h in let q : take n (drop p b) ≡ s = cc in rw (← q) (simp (length-take, length-drop) (omega arith)))
]

-- past the end stands what stands at the end: nothing
pub cstring_within : (b : List ℕ) (p q : ℕ) → q ≡ min p (length b) → cstring_at b q ≡ cstring_at b p
unfolding cstring_at
cstring_within b p q e = elim (cases_lt (length b) p) [
  | inl h ↦ (let f : q ≡ length b = omega arith in rw (f, drop_all (length b) b (omega arith), drop_all p b (omega arith)) refl)
  | inr h ↦ (let f : q ≡ p = omega arith in rw f refl)
]
