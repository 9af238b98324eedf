-- What is read of names up to the first empty one is what stands there, and it is refused only at the end.
use Rattle.std.proofs.Common.{◌≡◌, ℕ, zero, suc, ◌+◌, ◌-◌, ◌<◌, ◌≤◌, Bool, true, false, cond, List, [], ◌∷◌, length, Result, Ok, refl, sym, ◌∙◌, arith, inl, inr}
use Rattle.std.specs.Prelude.{nat_le}
use Rattle.std.specs.Int.{w64}
use Rattle.std.proofs.lemmas.Bool.Decides.{nat_tests}
use Rattle.pdb_base.specs.declared.error.Error.{Error}
use Rattle.pdb_base.specs.Refusal.{◌>>=◌}
use Rattle.pdb_base.specs.Fields.{cstring_at}
use Rattle.pdb_base.proofs.Places.{bind_ok, OnlyEof, bind_eof, ok_eof, cstring_is, is_cstring, cstring_eof}
use Rattle.pdb_base.proofs.Variants.{signed_is, is_signed, signed_eof}
use Rattle.pdb_base.proofs.Layouts.{Tells, Ends}
use Rattle.pdb_records.specs.RecordParts.{signed_wide, further, names_within, names_at, AreNames, names}

pub signed_wide_tells : Tells signed_wide
signed_wide_tells = record { is = λ kind b i x e. signed_is b i w64 x e; reads = λ kind b i x h. is_signed b i w64 x h }

pub signed_wide_ends : Ends signed_wide
signed_wide_ends = record { eof = λ kind b i. signed_eof b i w64 }

-- what is read behind a name
abbrev pub behind_name : ℕ → List ℕ → ℕ → List ℕ → Result (List (List ℕ)) Error
behind_name n b p = further (λ s. names_within n b (p + (length s + 1)))

-- one name, and what is read behind it
pub names_one : (n : ℕ) (b : List ℕ) (p : ℕ) → p < length b → names_within (suc n) b p ≡ (cstring_at b p >>= behind_name n b p)
names_one n b p lt = let t : nat_le (length b) p ≡ false = grind (arith, nat_tests) in rw t refl

pub names_none : (n : ℕ) (b : List ℕ) (p : ℕ) → length b ≤ p → names_within n b p ≡ Ok []
names_none zero b p le = refl
names_none (suc n) b p le = let t : nat_le (length b) p ≡ true = grind (arith, nat_tests) in rw t refl

-- the names behind a name are what stands there
abbrev AreBehind : ℕ → List ℕ → Type 0
AreBehind n b = (q : ℕ) (ys : List (List ℕ)) → length b ≤ q + n → names_within n b q ≡ Ok ys → AreNames b q ys

going_are : (n : ℕ) (b : List ℕ) (p : ℕ) (s : List ℕ) (xs : List (List ℕ)) → AreBehind n b → length b ≤ p + suc n → cstring_at b p ≡ Ok s → behind_name n b p s ≡ Ok xs → AreNames b p xs
going_are n b p [] xs all h at e = let same : [] ≡ xs = cc in rw (← same) (inr (cstring_is b p [] at))
going_are n b p (c ∷ s) xs all h at e =
    let (ys, r, e2) = bind_ok (names_within n b (p + (length (c ∷ s) + 1))) (λ names. Ok ((c ∷ s) ∷ names)) xs e in
    let same : (c ∷ s) ∷ ys ≡ xs = cc in
    rw (← same) (cstring_is b p (c ∷ s) at, omega arith, all (p + (length (c ∷ s) + 1)) ys (omega arith) r)

one_are : (n : ℕ) (b : List ℕ) (p : ℕ) (xs : List (List ℕ)) (t : Bool) → AreBehind n b → length b ≤ p + suc n → names_within (suc n) b p ≡ Ok xs → nat_le (length b) p ≡ t → AreNames b p xs
one_are n b p xs true all h e is =
    let past : length b ≤ p = grind (arith, nat_tests) in
    let q = names_none (suc n) b p past in
    let same : [] ≡ xs = cc in
    rw (← same) (inl past)
one_are n b p xs false all h e is =
    let before : p < length b = grind (arith, nat_tests) in
    let (s, at, rest) = bind_ok (cstring_at b p) (behind_name n b p) xs (sym (names_one n b p before) ∙ e) in
    going_are n b p s xs all h at rest

within_are : (n : ℕ) (b : List ℕ) (p : ℕ) (xs : List (List ℕ)) → length b ≤ p + n → names_within n b p ≡ Ok xs → AreNames b p xs
within_are zero b p xs h e = let same : [] ≡ xs = cc in rw (← same) (inl (omega arith))
within_are (suc n) b p xs h e = one_are n b p xs (nat_le (length b) p) (within_are n b) h e refl

are_within : (n : ℕ) (b : List ℕ) (p : ℕ) (xs : List (List ℕ)) → length b ≤ p + n → AreNames b p xs → names_within n b p ≡ Ok xs
are_within n b p [] h (inl past) = names_none n b p past
are_within zero b p [] h (inr empty) = refl
are_within (suc n) b p [] h (inr empty) =
    let room = empty.there in
    names_one n b p (omega arith) ∙ rw (is_cstring b p [] empty) refl
are_within zero b p (s ∷ xs) h stand =
    let room = stand.0.there in
    absurd (omega arith)
are_within (suc n) b p ([] ∷ xs) h stand =
    let some = stand.1 in
    absurd (omega arith)
are_within (suc n) b p ((c ∷ s) ∷ xs) h stand =
    let room = stand.0.there in
    names_one n b p (omega arith)
    ∙ rw (is_cstring b p (c ∷ s) stand.0, are_within n b (p + (length (c ∷ s) + 1)) xs (omega arith) stand.2) refl

pub names_are : (b : List ℕ) (p : ℕ) (xs : List (List ℕ)) → names_at b p ≡ Ok xs → AreNames b p xs
unfolding names_at
names_are b p xs e = within_are (length b - p) b p xs (omega arith) e

pub are_names : (b : List ℕ) (p : ℕ) (xs : List (List ℕ)) → AreNames b p xs → names_at b p ≡ Ok xs
unfolding names_at
are_names b p xs h = are_within (length b - p) b p xs (omega arith) h

behind_eof : (n : ℕ) (b : List ℕ) (p : ℕ) (s : List ℕ) → ((q : ℕ) → OnlyEof (names_within n b q)) → OnlyEof (behind_name n b p s)
behind_eof n b p [] all = ok_eof _
behind_eof n b p (c ∷ s) all = bind_eof _ _ (all (p + (length (c ∷ s) + 1))) (λ names. ok_eof _)

one_eof : (n : ℕ) (b : List ℕ) (p : ℕ) (t : Bool) → ((q : ℕ) → OnlyEof (names_within n b q)) → OnlyEof (cond t (Ok []) (cstring_at b p >>= behind_name n b p))
one_eof n b p true all = ok_eof _
one_eof n b p false all = bind_eof _ _ (cstring_eof b p) (λ s. behind_eof n b p s all)

within_eof : (n : ℕ) (b : List ℕ) (p : ℕ) → OnlyEof (names_within n b p)
within_eof zero b p = ok_eof _
within_eof (suc n) b p = one_eof n b p (nat_le (length b) p) (within_eof n b)

names_eof : (b : List ℕ) (p : ℕ) → OnlyEof (names_at b p)
unfolding names_at
names_eof b p = within_eof (length b - p) b p

pub names_tells : Tells names
names_tells = record { is = λ kind b i x e. names_are b i x e; reads = λ kind b i x h. are_names b i x h }

pub names_ends : Ends names
names_ends = record { eof = λ kind b i. names_eof b i }
