-- Names that match a pattern, piece by piece.
use Rattle.std.proofs.Common.{◌≡◌, ℕ, zero, suc, ◌+◌, ◌-◌, ◌<◌, ◌≤◌, List, [], ◌∷◌, ◌++◌, length, take, drop, Bool, true, false, ◌==◌, refl, sym, ap, subst, ◌∙◌, arith, ⊎_elim, get_or, ext_get_or, get_or-take, get_or-drop, length-drop, length-take-le, take-append-drop, drop-drop, drop-cons, take_all, append-nil, IsTrue, ◌↔◌}
use Rattle.std.proofs.lemmas.List.{drop_all}
use Rattle.std.proofs.Math.Seq.{take-length}
use Rattle.std.specs.Str.{bytes_eq}
use Rattle.std.proofs.lemmas.Slice.Eq.{bytes_eq-Decides}
use Rattle.std.proofs.lemmas.Bool.{and_parts, and_from, or_left, or_right, or_cases, eqb-true, eq-eqb, false_from_ne_true, false≢true}
use Rattle.bstr.specs.Find.{OccursAt, NoneBefore, Nowhere, Passes, is_byte}
use Rattle.tool_arguments.specs.Wildcards.{from_somewhere, is_empty, matches}

-- ---- two tests that say the same

pub same_tests : (a b : Bool) → (a ≡ true → b ≡ true) → (b ≡ true → a ≡ true) → a ≡ b
same_tests true b f g = sym (f refl)
same_tests false true f g = g refl
same_tests false false f g = refl

-- ---- a piece without a star

abbrev pub NoStar : List ℕ → Type 0
NoStar [] = Unit {0}
NoStar (p ∷ piece) = ((p == 42) ≡ false) × NoStar piece

-- the bytes of a pattern up to its first star
pub no_star : (pattern : List ℕ) (i : ℕ) → Nowhere (Passes (is_byte 42) pattern) 0 i → NoStar (take i pattern)
no_star [] zero h = tt
no_star [] (suc i) h = tt
no_star (p ∷ ps) zero h = tt
no_star (p ∷ ps) (suc i) h = (false_from_ne_true (p == 42) (h 0 (omega arith) (omega arith)), no_star ps i (λ k l u. h (suc k) (omega arith) (omega (arith, u))))

-- a name that begins with a piece
pub piece_met : (piece rest name : List ℕ) → NoStar piece → matches rest name ≡ true → matches (piece ++ rest) (piece ++ name) ≡ true
piece_met [] rest name n m = m
piece_met (p ∷ piece) rest name n m = rw n.0 (and_from (p == p) (matches (piece ++ rest) (piece ++ name)) (eq-eqb p p refl) (piece_met piece rest name n.1 m))

-- what a name is that matches a piece and then the rest of a pattern
pub record Met (piece rest name : List ℕ) : Type 0 where
  pub fits : length piece ≤ length name
  pub begins : take (length piece) name ≡ piece
  pub goes_on : matches rest (drop (length piece) name) ≡ true

met_more : (p : ℕ) (piece rest : List ℕ) (b : ℕ) (name : List ℕ) → ((p == b) ≡ true) × Met piece rest name → Met (p ∷ piece) rest (b ∷ name)
met_more p piece rest b name h =
    record {
      fits = omega (arith, h.1.fits);
      begins = ap (λ c. c ∷ take (length piece) name) (sym (eqb-true p b h.0)) ∙ ap (λ l. p ∷ l) h.1.begins;
      goes_on = h.1.goes_on;
    }

pub piece_meets : (piece rest name : List ℕ) → NoStar piece → matches (piece ++ rest) name ≡ true → Met piece rest name
piece_meets [] rest name n m = record { fits = omega arith; begins = refl; goes_on = m }
piece_meets (p ∷ piece) rest [] n m = absurd (no_byte (rw n.0 at m))
  where
    no_byte : false ≡ true → ⊥
    no_byte q = absurd cc
piece_meets (p ∷ piece) rest (b ∷ name) n m =
    let parts = and_parts (p == b) (matches (piece ++ rest) name) (rw n.0 at m) in
    met_more p piece rest b name (parts.0, piece_meets piece rest name n.1 parts.1)

-- ---- where a piece occurs

part_is : (name piece : List ℕ) (at : ℕ) → OccursAt name piece at → take (length piece) (drop at name) ≡ piece
part_is name piece at h =
    let fits = h.fits in
    let whole : length (take (length piece) (drop at name)) ≡ length piece = length-take-le (length piece) (drop at name) (omega (arith, length-drop at name)) in
    ext_get_or 0 _ piece whole (λ j l. get_or-take (length piece) _ j 0 (omega arith) ∙ get_or-drop at name j 0 ∙ h.reads j (omega arith))

pub split_at : (name piece : List ℕ) (at : ℕ) → OccursAt name piece at → drop at name ≡ piece ++ drop (at + length piece) name
split_at name piece at h =
    sym (take-append-drop (length piece) (drop at name)) ∙ ap (λ l. l ++ drop (length piece) (drop at name)) (part_is name piece at h) ∙ ap (λ l. piece ++ l) (drop-drop (length piece) at name)

pub met_occurs : (piece rest name : List ℕ) (at : ℕ) → at ≤ length name → Met piece rest (drop at name) → OccursAt name piece at
met_occurs piece rest name at le m =
    let fits = m.fits in
    record {
      fits = omega (arith, length-drop at name);
      reads = λ j l. sym (get_or-take (length piece) _ j 0 (omega arith) ∙ get_or-drop at name j 0) ∙ ap (λ xs. get_or xs j 0) m.begins;
    }

-- ---- from some place on

pub somewhere_at : (t : List ℕ → Bool) (name : List ℕ) (k : ℕ) → t (drop k name) ≡ true → from_somewhere t name ≡ true
somewhere_at t [] zero h = h
somewhere_at t [] (suc k) h = h
somewhere_at t (b ∷ name) zero h = or_left (t (b ∷ name)) (from_somewhere t name) h
somewhere_at t (b ∷ name) (suc k) h = or_right (t (b ∷ name)) (from_somewhere t name) (somewhere_at t name k h)

pub somewhere_is : (t : List ℕ → Bool) (name : List ℕ) → from_somewhere t name ≡ true → (k : ℕ) × (k ≤ length name) × (t (drop k name) ≡ true)
somewhere_is t [] h = (0, omega arith, h)
somewhere_is t (b ∷ name) h =
    ⊎_elim (λ here. (0, omega arith, here)) (λ later. let x = somewhere_is t name later in (suc x.0, omega (arith, x.1), x.2)) (or_cases (t (b ∷ name)) (from_somewhere t name) h)

-- a later place leaves less
pub somewhere_later : (t : List ℕ → Bool) (name : List ℕ) (a b : ℕ) → a ≤ b → from_somewhere t (drop b name) ≡ true → from_somewhere t (drop a name) ≡ true
somewhere_later t name a b le h =
    let x = somewhere_is t (drop b name) h in
    let k = x.0 in
    let reached : drop (b - a + k) (drop a name) ≡ drop k (drop b name) = drop-drop (b - a + k) a name ∙ ap (λ n. drop n name) (omega arith) ∙ sym (drop-drop k b name) in
    somewhere_at t (drop a name) (b - a + k) (rw reached x.2)

-- ---- the first place at which a piece occurs is enough

enough : (piece rest name : List ℕ) (at : ℕ) → NoStar piece → OccursAt name piece at → from_somewhere (matches rest) (drop (at + length piece) name) ≡ true → from_somewhere (matches (piece ++ 42 ∷ rest)) name ≡ true
enough piece rest name at n occurs h =
    somewhere_at (matches (piece ++ 42 ∷ rest)) name at (rw (split_at name piece at occurs) (piece_met piece (42 ∷ rest) (drop (at + length piece) name) n h))

at_first : (piece rest name : List ℕ) (at : ℕ) → NoStar piece → Nowhere (OccursAt name piece) 0 at → from_somewhere (matches (piece ++ 42 ∷ rest)) name ≡ true → from_somewhere (matches rest) (drop (at + length piece) name) ≡ true
at_first piece rest name at n none h =
    let x = somewhere_is (matches (piece ++ 42 ∷ rest)) name h in
    let k = x.0 in
    let met = piece_meets piece (42 ∷ rest) (drop k name) n x.2 in
    let behind : at ≤ k = not_before at k (λ lt. none k (omega arith) lt (met_occurs piece (42 ∷ rest) name k x.1 met)) in
    somewhere_later (matches rest) name (at + length piece) (k + length piece) (omega (arith, behind)) (rw (drop-drop (length piece) k name) at met.goes_on)
  where
    not_before : (a b : ℕ) → (b < a → ⊥) → a ≤ b
    not_before a b h = omega (arith, h)

pub first_is_enough : (piece rest name : List ℕ) (at : ℕ) → NoStar piece → OccursAt name piece at → Nowhere (OccursAt name piece) 0 at → from_somewhere (matches rest) (drop (at + length piece) name) ≡ from_somewhere (matches (piece ++ 42 ∷ rest)) name
first_is_enough piece rest name at n occurs none = same_tests _ _ (enough piece rest name at n occurs) (at_first piece rest name at n none)

pub nowhere_fails : (piece rest name : List ℕ) → NoStar piece → Nowhere (OccursAt name piece) 0 (length name + 1) → false ≡ from_somewhere (matches (piece ++ rest)) name
nowhere_fails piece rest name n none =
    sym (false_from_ne_true _ (λ h. let x = somewhere_is (matches (piece ++ rest)) name h in none x.0 (omega arith) (omega (arith, x.1)) (met_occurs piece rest name x.0 x.1 (piece_meets piece rest (drop x.0 name) n x.2))))

-- ---- what stands at an end

ends_said : (b c : Bool) (P : Type 0) → (IsTrue b ↔ P) → (P → c ≡ true) → (c ≡ true → P) → b ≡ c
ends_said b c P h f g = same_tests b c (λ e. f (h.0 e)) (λ e. h.1 (g e))

is_empty_length : (name : List ℕ) → is_empty name ≡ true → length name ≡ 0
is_empty_length [] h = refl
is_empty_length (b ∷ name) h = absurd cc

abbrev Ends : List ℕ → List ℕ → Type 0
Ends piece name = (length piece ≤ length name) × OccursAt name piece (length name - length piece)

matched_end : (piece name : List ℕ) → NoStar piece → Ends piece name → from_somewhere (matches (piece ++ [])) name ≡ true
matched_end piece name n h =
    let k = length name - length piece in
    let nothing : drop (k + length piece) name ≡ [] = drop_all (k + length piece) name (omega (arith, h.0)) in
    somewhere_at (matches (piece ++ [])) name k (rw (split_at name piece k h.1, nothing) (piece_met piece [] [] n refl))

end_matched : (piece name : List ℕ) → NoStar piece → from_somewhere (matches (piece ++ [])) name ≡ true → Ends piece name
end_matched piece name n h =
    let x = somewhere_is (matches (piece ++ [])) name h in
    let k = x.0 in
    let met = piece_meets piece [] (drop k name) n x.2 in
    let fits = met.fits in
    let nothing = is_empty_length _ met.goes_on in
    let at : k ≡ length name - length piece = omega (arith, x.1, fits, nothing, length-drop k name, length-drop (length piece) (drop k name)) in
    (omega (arith, fits, length-drop k name), subst (OccursAt name piece) at (met_occurs piece [] name k x.1 met))

-- the last piece ends a name
pub last_piece : (b : Bool) (piece name : List ℕ) → NoStar piece → (IsTrue b ↔ ((length piece ≤ length name) × OccursAt name piece (length name - length piece))) → b ≡ from_somewhere (matches piece) name
last_piece b piece name n h = ends_said b _ _ h (λ e. subst (λ l. from_somewhere (matches l) name ≡ true) (append-nil piece) (matched_end piece name n e)) (λ m. end_matched piece name n (subst (λ l. from_somewhere (matches l) name ≡ true) (sym (append-nil piece)) m))

from_zero : (k : ℕ) → 0 + k ≡ k
from_zero k = omega arith

-- the first piece begins a name
pub first_piece : (piece rest name : List ℕ) → NoStar piece → OccursAt name piece 0 → from_somewhere (matches rest) (drop (length piece) name) ≡ matches (piece ++ 42 ∷ rest) name
first_piece piece rest name n h =
    same_tests _ _
    (λ m. rw (split_at name piece 0 h) (piece_met piece (42 ∷ rest) (drop (0 + length piece) name) n (rw (from_zero (length piece)) m)))
    (λ m. (piece_meets piece (42 ∷ rest) name n m).goes_on)

pub no_first_piece : (b : Bool) (piece rest name : List ℕ) → NoStar piece → b ≡ false → (IsTrue b ↔ OccursAt name piece 0) → b ≡ matches (piece ++ rest) name
no_first_piece b piece rest name n e h = e ∙ sym (false_from_ne_true _ (λ m. false≢true (sym e ∙ h.1 (met_occurs piece rest name 0 (omega arith) (piece_meets piece rest name n m)))))

-- a pattern without a star is the name
pub whole_name : (piece name : List ℕ) → NoStar piece → bytes_eq name piece ≡ matches piece name
whole_name piece name n =
    same_tests _ _
    (λ e. let same = (bytes_eq-Decides name piece).0 e in rw same (subst (λ l. matches l l ≡ true) (append-nil piece) (piece_met piece [] [] n refl)))
    (λ m. let met = piece_meets piece [] name n (subst (λ l. matches l name ≡ true) (sym (append-nil piece)) m) in
    let fits = met.fits in
    let whole : take (length piece) name ≡ name = take_all (length piece) name (omega (arith, fits, is_empty_length _ met.goes_on, length-drop (length piece) name)) in
    (bytes_eq-Decides name piece).1 (sym whole ∙ met.begins))

-- ---- a pattern by its first star

-- all of a list from a place on
rest_of : (l : List ℕ) (k : ℕ) → take (length l - k) (drop k l) ≡ drop k l
rest_of l k = take_all (length l - k) (drop k l) (omega (arith, length-drop k l))

one_more : (i : ℕ) → i + 1 ≡ suc i
one_more i = omega arith

-- a pattern without a star
pub no_star_at_all : (pattern : List ℕ) → Nowhere (Passes (is_byte 42) pattern) 0 (length pattern) → NoStar pattern
no_star_at_all pattern h = subst NoStar (take-length pattern) (no_star pattern (length pattern) h)

pub by_star : (pattern : List ℕ) (i : ℕ) → i < length pattern → Passes (is_byte 42) pattern i → take i pattern ++ 42 ∷ drop (i + 1) pattern ≡ pattern
by_star pattern i lt h = ap (λ b. take i pattern ++ b ∷ drop (i + 1) pattern) (sym (eqb-true _ 42 h)) ∙ ap (λ l. take i pattern ++ l) ((ap (λ k. get_or pattern i 0 ∷ drop k pattern) (one_more i) ∙ sym (drop-cons pattern i 0 lt))) ∙ take-append-drop i pattern

abbrev FirstStar : List ℕ → ℕ → Type 0
FirstStar pattern star = NoneBefore (Passes (is_byte 42) pattern) 0 (length pattern) star × Passes (is_byte 42) pattern star

piece_length : (pattern : List ℕ) (star : ℕ) → FirstStar pattern star → length (take star pattern) ≡ star
piece_length pattern star h = let high = h.0.high in length-take-le star pattern (omega (arith, high))

pub found : (pattern name : List ℕ) (star at : ℕ) → FirstStar pattern star
    → NoneBefore (OccursAt name (take star pattern)) 0 (length name + 1) at × OccursAt name (take star pattern) at
    → from_somewhere (matches (take (length pattern - (star + 1)) (drop (star + 1) pattern))) (take (length name - (at + star)) (drop (at + star) name)) ≡ from_somewhere (matches pattern) name
found pattern name star at h o =
    ap (λ l. from_somewhere (matches l) (take (length name - (at + star)) (drop (at + star) name))) (rest_of pattern (star + 1))
    ∙ ap (from_somewhere (matches (drop (star + 1) pattern))) (rest_of name (at + star))
    ∙ ap (λ k. from_somewhere (matches (drop (star + 1) pattern)) (drop (at + k) name)) (sym (piece_length pattern star h))
    ∙ first_is_enough (take star pattern) (drop (star + 1) pattern) name at (no_star pattern star h.0.before) o.1 o.0.before
    ∙ ap (λ l. from_somewhere (matches l) name) (by_star pattern star h.0.high h.1)

pub not_found : (pattern name : List ℕ) (star : ℕ) → FirstStar pattern star → Nowhere (OccursAt name (take star pattern)) 0 (length name + 1) → false ≡ from_somewhere (matches pattern) name
not_found pattern name star h o =
    nowhere_fails (take star pattern) (42 ∷ drop (star + 1) pattern) name (no_star pattern star h.0.before) o ∙ ap (λ l. from_somewhere (matches l) name) (by_star pattern star h.0.high h.1)

pub begun : (pattern name : List ℕ) (star : ℕ) → FirstStar pattern star → OccursAt name (take star pattern) 0 → from_somewhere (matches (take (length pattern - (star + 1)) (drop (star + 1) pattern))) (take (length name - star) (drop star name)) ≡ matches pattern name
begun pattern name star h o =
    ap (λ l. from_somewhere (matches l) (take (length name - star) (drop star name))) (rest_of pattern (star + 1))
    ∙ ap (from_somewhere (matches (drop (star + 1) pattern))) (rest_of name star)
    ∙ ap (λ k. from_somewhere (matches (drop (star + 1) pattern)) (drop k name)) (sym (piece_length pattern star h))
    ∙ first_piece (take star pattern) (drop (star + 1) pattern) name (no_star pattern star h.0.before) o
    ∙ ap (λ l. matches l name) (by_star pattern star h.0.high h.1)

pub not_begun : (b : Bool) (pattern name : List ℕ) (star : ℕ) → FirstStar pattern star → b ≡ false → (IsTrue b ↔ OccursAt name (take star pattern) 0) → b ≡ matches pattern name
not_begun b pattern name star h e o =
    no_first_piece b (take star pattern) (42 ∷ drop (star + 1) pattern) name (no_star pattern star h.0.before) e o ∙ ap (λ l. matches l name) (by_star pattern star h.0.high h.1)

-- ---- a star alone

pub star_alone : (name : List ℕ) → matches (42 ∷ []) name ≡ true
star_alone [] = refl
star_alone (b ∷ name) = star_alone name
