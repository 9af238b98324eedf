-- Texts with marks, piece after piece.
use Rattle.std.proofs.Common.{◌≡◌, ℕ, zero, suc, ◌+◌, ◌-◌, ◌<◌, ◌≤◌, ◌≢◌, true, false, ◌||◌, List, [], ◌∷◌, ◌++◌, length, take, drop, get_or, Option, refl, sym, ap, ◌∙◌, append_assoc, arith, drop-cons, take-append-drop}
use Rattle.std.proofs.lemmas.Grind.{common_steps}
use Rattle.bstr.specs.Find.{Nowhere, Passes, is_byte}
use Rattle.std.specs.Io.KnownBytes.{Appends}
use Rattle.pdb_text.specs.Written.{WroteFront}
use Rattle.pdb_text.proofs.Written.{appends_then, front_of, front_then}
use Rattle.tool_printing.specs.Printing.{has_bytes, has_mark, join, shown, unmarked}

pub unmarked-append : (xs ys : List ℕ) → unmarked (xs ++ ys) ≡ unmarked xs ++ unmarked ys
unfolding unmarked
unmarked-append xs ys = grind (arith, common_steps)

pub has_mark-append : (xs ys : List ℕ) → has_mark (xs ++ ys) ≡ (has_mark xs || has_mark ys)
unfolding has_mark
has_mark-append xs ys = grind (arith, common_steps)

pub shown-append : (xs ys : List ℕ) → shown (xs ++ ys) ≡ join (shown xs) (shown ys)
shown-append xs ys = rw (unmarked-append xs ys, has_mark-append xs ys) refl

-- ---- up to the first mark

-- a text without marks is printed as it is
pub unmarked_plain : (xs : List ℕ) → has_mark xs ≡ false → unmarked xs ≡ xs
unfolding has_mark unmarked
unmarked_plain [] h = refl
unmarked_plain (zero ∷ xs) h = absurd cc
unmarked_plain (suc x ∷ xs) h = ap (λ ys. suc x ∷ ys) (unmarked_plain xs h)

-- no byte before a place is a mark
pub no_mark : (xs : List ℕ) (i : ℕ) → Nowhere (Passes (is_byte 0) xs) 0 i → has_mark (take i xs) ≡ false
unfolding has_mark
no_mark [] zero h = refl
no_mark [] (suc i) h = refl
no_mark (x ∷ xs) zero h = refl
no_mark (zero ∷ xs) (suc i) h = absurd (h 0 (omega arith) (omega arith) refl)
no_mark (suc x ∷ xs) (suc i) h = no_mark xs i (λ k l u. h (suc k) (omega arith) (omega (arith, u)))

pub no_mark_at_all : (xs : List ℕ) → Nowhere (Passes (is_byte 0) xs) 0 (length xs) → has_mark xs ≡ false
no_mark_at_all xs h =
    let all : take (length xs) xs ≡ xs = grind (arith, common_steps) in
    rw all at (no_mark xs (length xs) h)

-- a mark is one of a text that has it
pub marked : (xs : List ℕ) (i : ℕ) → i < length xs → get_or xs i 0 ≡ 0 → has_mark xs ≡ true
unfolding has_mark
marked [] i lt mark = absurd (omega arith)
marked (zero ∷ xs) i lt mark = refl
marked (suc x ∷ xs) zero lt mark = absurd cc
marked (suc x ∷ xs) (suc i) lt mark = marked xs i (omega arith) mark

mark_first : (ys : List ℕ) → unmarked (0 ∷ ys) ≡ unmarked ys
unfolding unmarked
mark_first ys = refl

behind_mark : (ys zs : List ℕ) → ys ≡ 0 ∷ zs → unmarked ys ≡ unmarked (drop 1 ys)
behind_mark ys zs e = rw e (mark_first zs)

-- what stands before the first mark, and what is printed of what stands behind it
pub unmarked_upto : (xs : List ℕ) (i : ℕ) → i < length xs → get_or xs i 0 ≡ 0 → has_mark (take i xs) ≡ false → unmarked xs ≡ take i xs ++ unmarked (drop 1 (drop i xs))
unmarked_upto xs i lt mark none =
    let first : drop i xs ≡ 0 ∷ drop (suc i) xs = rw mark at (drop-cons xs i 0 lt) in
    ap unmarked (sym (take-append-drop i xs)) ∙ unmarked-append (take i xs) (drop i xs) ∙ ap (λ ys. ys ++ unmarked (drop i xs)) (unmarked_plain (take i xs) none) ∙ ap (λ ys. take i xs ++ ys) (behind_mark (drop i xs) (drop (suc i) xs) first)

-- ---- a text of which a beginning was written without its marks, and the rest is left

abbrev pub Left : Option (List ℕ) → Option (List ℕ) → List ℕ → List ℕ → Type 0
Left a b text rest = (done : List ℕ) × Appends a b done × (unmarked text ≡ done ++ unmarked rest)

-- what stands behind a mark
pub tail_of : (xs : List ℕ) → take (length xs - 1) (drop 1 xs) ≡ drop 1 xs
tail_of xs = grind (arith, common_steps)

-- the piece before the first mark, and what stands behind it
pub piece_of : (rest front back : List ℕ) (i : ℕ) → i < length rest → get_or rest i 0 ≡ 0 → has_mark (take i rest) ≡ false → front ≡ take i rest → back ≡ drop i rest
    → unmarked rest ≡ front ++ unmarked (take (length back - 1) (drop 1 back))
piece_of rest front back i lt mark none e f = rw (e, f, tail_of (drop i rest)) (unmarked_upto rest i lt mark none)

pub left_more : (a b c : Option (List ℕ)) (text rest piece tail : List ℕ) → Left a b text rest → unmarked rest ≡ piece ++ unmarked tail → Appends b c piece → Left a c text tail
left_more a b c text rest piece tail h e w = (h.0 ++ piece, appends_then a b c h.0 piece h.1 w, h.2 ∙ ap (λ xs. h.0 ++ xs) e ∙ sym (append_assoc h.0 piece (unmarked tail)))

pub left_front : (a b c : Option (List ℕ)) (text rest piece tail : List ℕ) → Left a b text rest → unmarked rest ≡ piece ++ unmarked tail → WroteFront b c piece → WroteFront a c (unmarked text)
left_front a b c text rest piece tail h e w =
    rw (h.2, e) (front_then a b c h.0 (piece ++ unmarked tail) h.1 (front_of b c piece (unmarked tail) w))

pub left_end : (a b c : Option (List ℕ)) (text rest : List ℕ) → Left a b text rest → has_mark rest ≡ false → Appends b c rest → Appends a c (unmarked text)
left_end a b c text rest h none w = rw (h.2, unmarked_plain rest none) (appends_then a b c h.0 rest h.1 w)

pub left_end_front : (a b c : Option (List ℕ)) (text rest : List ℕ) → Left a b text rest → has_mark rest ≡ false → WroteFront b c rest → WroteFront a c (unmarked text)
left_end_front a b c text rest h none w = rw (h.2, unmarked_plain rest none) (front_then a b c h.0 rest h.1 w)

-- ---- whether there is anything but marks

byte_first : (x : ℕ) (ys zs : List ℕ) → zs ≡ x ∷ ys → x ≢ 0 → has_bytes (unmarked zs) ≡ true
unfolding unmarked
byte_first zero ys zs e n = absurd (n refl)
byte_first (suc x) ys zs e n = rw e refl

pub byte_here : (xs : List ℕ) (i : ℕ) → i < length xs → get_or xs i 0 ≢ 0 → has_bytes (unmarked (drop i xs)) ≡ true
byte_here xs i lt some = byte_first (get_or xs i 0) (drop (suc i) xs) (drop i xs) (drop-cons xs i 0 lt) some

-- a mark is passed
pub mark_here : (xs : List ℕ) (i : ℕ) → i < length xs → get_or xs i 0 ≡ 0 → unmarked (drop i xs) ≡ unmarked (drop (i + 1) xs)
mark_here xs i lt mark =
    let one : suc i ≡ i + 1 = omega arith in
    let first : drop i xs ≡ 0 ∷ drop (i + 1) xs = rw (mark, one) at (drop-cons xs i 0 lt) in
    rw first (mark_first (drop (i + 1) xs))

pub none_left : (xs : List ℕ) (i : ℕ) → length xs ≤ i → has_bytes (unmarked (drop i xs)) ≡ false
unfolding unmarked
none_left xs i h =
    let none : drop i xs ≡ [] = grind (arith, common_steps) in
    rw none refl
