-- A public symbol's place, where its record shows at once that the name ends.
use Rattle.std.proofs.Common.{◌≡◌, ℕ, zero, suc, ◌+◌, ◌-◌, ◌<◌, ◌≤◌, true, List, [], ◌∷◌, length, get_or, drop, take, map, Option, Some, None, Ok, refl, sym, ap, ◌∙◌, arith, leb}
use Rattle.std.specs.Prelude.{IsSome}
use Rattle.std.specs.Option.{option_map, option_to_list}
use Rattle.std.proofs.lemmas.Bool.{le-leb}
use Rattle.std.proofs.lemmas.List.{get_or-drop, length-drop, length-take}
use Rattle.pdb.specs.Fields.{number, number_at, cstring_at}
use Rattle.pdb.specs.Forms.{fields_at}
use Rattle.pdb.specs.PdbInternalSectionOffset.{PdbInternalSectionOffset}
use Rattle.pdb.specs.SymbolList.{Entry}
use Rattle.pdb_base.proofs.Places.{is_cstring}
use Rattle.pdb_symbols.specs.FormTable.{read_of}
use Rattle.pdb_symbols.specs.Kinds.{row}
use Rattle.pdb_symbols.specs.Parts.{offset_at, name_at}
use Rattle.pdb_places.specs.PublicNames.{PublicAt, nearer, public_of, public_said}
use Rattle.pdb_places.specs.PublicPlaces.{IsPublicAt}
use Rattle.pdb_places.specs.PublicTable.{if_upto, public_parts}

-- ---- a name that ends

-- the first zero byte
abbrev Zero : List ℕ → Type 0
Zero xs = (n : ℕ) × (n < length xs) × (get_or xs n 0 ≡ 0) × ((k : ℕ) → k < n → get_or xs k 0 ≡ 0 → ⊥)

later_before : (m : ℕ) (xs : List ℕ) (n : ℕ) → ((k : ℕ) → k < n → get_or xs k 0 ≡ 0 → ⊥) → (k : ℕ) → k < suc n → get_or (suc m ∷ xs) k 0 ≡ 0 → ⊥
later_before m xs n before zero l z = omega arith
later_before m xs n before (suc k) l z = before k (omega arith) z

later : (m : ℕ) (xs : List ℕ) → Zero xs → Zero (suc m ∷ xs)
later m xs (n, inside, is, before) = (suc n, omega arith, is, later_before m xs n before)

zero_of : (xs : List ℕ) (i : ℕ) → i < length xs → get_or xs i 0 ≡ 0 → Zero xs
zero_of [] i h e = absurd (omega arith)
zero_of (zero ∷ xs) i h e = (zero, omega arith, refl, λ k below z. absurd (omega arith))
zero_of (suc m ∷ xs) zero h e = absurd (omega arith)
zero_of (suc m ∷ xs) (suc j) h e = later m xs (zero_of xs j (omega arith) e)

named_by : (b : List ℕ) → Zero (drop 12 b) → (s : List ℕ) × (cstring_at b 12 ≡ Ok s)
named_by b (n, inside, is, before) =
    let s = take n (drop 12 b) in
    let size : length s ≡ n = simp length-take (omega arith) in (
      s,
      is_cstring b 12 s (record {
        there = omega (arith, size, inside, length-drop 12 b);
        ended = rw size (sym (get_or-drop 12 b n 0) ∙ is);
        least = λ i h z. before i (omega (arith, size, h)) (get_or-drop 12 b i 0 ∙ z);
        value = rw size refl;
      }),
    )

named : (b : List ℕ) → 13 ≤ length b → get_or b (length b - 1) 0 ≡ 0 → (s : List ℕ) × (cstring_at b 12 ≡ Ok s)
named b long last =
    let at : 12 + (length b - 13) ≡ length b - 1 = omega arith in
    let end : get_or (drop 12 b) (length b - 13) 0 ≡ 0 = get_or-drop 12 b (length b - 13) 0 ∙ (ap (λ (i : ℕ). get_or b i 0) at ∙ last) in
    named_by b (zero_of (drop 12 b) (length b - 13) (omega (arith, length-drop 12 b)) end)

-- ---- the place

abbrev place_at : List ℕ → PdbInternalSectionOffset
place_at b = record { offset = number b 6 4; section = number b 10 2 }

said_by : (i : ℕ) (b s : List ℕ) → leb 6 (length b) ≡ true → leb 10 (length b) ≡ true → leb 12 (length b) ≡ true → cstring_at b 12 ≡ Ok s → option_map public_parts (public_said i (fields_at (row 0x110e) 0x110e b)) ≡ Some (i, place_at b)
unfolding read_of offset_at number_at name_at
said_by i b s p q r n = rw (p, q, r, n) refl

pub place_is : (b : List ℕ) (q : PdbInternalSectionOffset) → number b 0 2 ≡ 0x110e → 13 ≤ length b → get_or b (length b - 1) 0 ≡ 0 → q ≡ place_at b → IsPublicAt b q
place_is b q kind long last is =
    let (s, name) = named b long last in
    let said = λ (i : ℕ). said_by i b s (le-leb 6 (length b) (omega arith)) (le-leb 10 (length b) (omega arith)) (le-leb 12 (length b) (omega arith)) name in
    record { is = λ i. ap (λ (k : ℕ). option_map public_parts (public_said i (fields_at (row k) k b))) kind ∙ (said i ∙ ap (λ (p : PdbInternalSectionOffset). Some (i, p)) (sym is)) }

-- ---- what it tells of a symbol

parts_listed : (o : Option PublicAt) (z : ℕ × PdbInternalSectionOffset) → option_map public_parts o ≡ Some z → map public_parts (option_to_list o) ≡ z ∷ []
parts_listed None z e = absurd cc
parts_listed (Some p) z e = let same : public_parts p ≡ z = cc in ap (λ (y : ℕ × PdbInternalSectionOffset). y ∷ []) same

pub one_listed : (s : Entry) (q : PdbInternalSectionOffset) → IsPublicAt s.bytes q → map public_parts (option_to_list (public_of s)) ≡ (s.index, q) ∷ []
one_listed s q at = parts_listed (public_of s) (s.index, q) (at.is s.index)

farther_by : (best : Option PublicAt) (i : ℕ) (at place : PdbInternalSectionOffset) (o : Option PublicAt) → option_map public_parts o ≡ Some (i, at) → ((p : PublicAt) → p.place ≡ at → nearer best (if_upto place (Some p)) ≡ best) → nearer best (if_upto place o) ≡ best
farther_by best i at place None e same = absurd cc
farther_by best i at place (Some p) e same = let parts : public_parts p ≡ (i, at) = cc in same p (ap (λ (z : ℕ × PdbInternalSectionOffset). z.1) parts)

pub farther : (best : Option PublicAt) (s : Entry) (at place : PdbInternalSectionOffset) → IsPublicAt s.bytes at → ((p : PublicAt) → p.place ≡ at → nearer best (if_upto place (Some p)) ≡ best) → nearer best (if_upto place (public_of s)) ≡ best
farther best s at place is same = farther_by best s.index at place (public_of s) (is.is s.index) same

is_public_by : (o : Option PublicAt) (z : ℕ × PdbInternalSectionOffset) → option_map public_parts o ≡ Some z → IsSome o
is_public_by None z e = absurd cc
is_public_by (Some p) z e = refl

pub is_public : (s : Entry) (at : PdbInternalSectionOffset) → IsPublicAt s.bytes at → IsSome (public_of s)
is_public s at is = is_public_by (public_of s) (s.index, at) (is.is s.index)
