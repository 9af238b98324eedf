-- Rows of public symbols by their numbers in the order: how many stand at or before one.
use Rattle.std.proofs.Common.{◌≡◌, ℕ, ◌<◌, ◌≤◌, List, [], ◌∷◌, ◌++◌, length, get_or, map, refl, sym, ap, ◌∙◌, append_assoc, arith}
use Rattle.std.specs.Prelude.{Option, Some, None}
use Rattle.std.specs.List.{cons_option}
use Rattle.std.specs.Option.{option_to_list}
use Rattle.std.specs.List.Sorted.{IsNonDecreasingBy}
use Rattle.std.proofs.lemmas.List.{get_or-map}
use Rattle.pdb.specs.PdbInternalSectionOffset.{PdbInternalSectionOffset}
use Rattle.pdb.specs.SymbolList.{Entry}
use Rattle.pdb_places.specs.declared.public_place.PublicPlace.{PublicPlace}
use Rattle.pdb_places.specs.PublicNames.{PublicAt, public_of, publics_among}
use Rattle.pdb_places.specs.PublicTable.{place_parts, public_parts, key_of, IsUptoCount}
use Rattle.pdb_places.proofs.Keyed.{NeverFalls, IsKeyed}

-- the number of row k in the order
abbrev pub key_at : List PublicPlace → ℕ → ℕ
key_at rs k = get_or (map key_of rs) k 0

pub key_is : (rs : List PublicPlace) (k : ℕ) (d : PublicPlace) → k < length rs → key_at rs k ≡ key_of (get_or rs k d)
key_is rs k d l = get_or-map key_of rs k d 0 l

pub key_here : (rs : List PublicPlace) (k : ℕ) (r : PublicPlace) (key : ℕ) → k < length rs → r ≡ get_or rs k r → key ≡ key_of r → key_at rs k ≡ key
key_here rs k r key l is e = key_is rs k r l ∙ (ap key_of (sym is) ∙ sym e)

pub keys_rise : (rs : List PublicPlace) → IsNonDecreasingBy key_of rs → NeverFalls (key_at rs) (length rs)
keys_rise [] h j k l m = absurd (omega (arith, m))
keys_rise (x ∷ rs) h j k l m = rw (key_is (x ∷ rs) j x (omega (arith, l, m)), key_is (x ∷ rs) k x m) (h j k x l m)

abbrev pub IsCounted : List PublicPlace → ℕ → ℕ → ℕ → ℕ → ℕ → Type 0
IsCounted rs last low high before now = IsKeyed (key_at rs) (length rs) last low high before now

pub counted_all : (last : ℕ) (rs : List PublicPlace) (low high before now : ℕ) → IsCounted rs last low high before now → high ≤ low → IsUptoCount last rs low
counted_all last rs low high before now c over = record {
  inside = omega (arith, c.ordered, c.inside);
  below = λ k d l. rw (← key_is rs k d (omega (arith, l, c.ordered, c.inside))) (c.below k l);
  above = λ k d l m. rw (← key_is rs k d m) (c.above k (omega (arith, l, over)) m);
}

-- ---- one more symbol

abbrev Parts : Type 0
Parts = ℕ × PdbInternalSectionOffset

more_by : (o : Option PublicAt) (ps : List PublicAt) → map public_parts (cons_option o ps) ≡ map public_parts (option_to_list o) ++ map public_parts ps
more_by None ps = refl
more_by (Some p) ps = refl

pub one_more_public : (s : Entry) (old new : List Entry) (rs ss : List PublicPlace) (all : List Parts)
    → old ≡ s ∷ new → map place_parts ss ≡ map place_parts rs ++ map public_parts (option_to_list (public_of s))
    → map place_parts rs ++ map public_parts (publics_among old) ≡ all
    → map place_parts ss ++ map public_parts (publics_among new) ≡ all
one_more_public s old new rs ss all follows added before =
    ap (λ l. l ++ map public_parts (publics_among new)) added
    ∙ (append_assoc (map place_parts rs) (map public_parts (option_to_list (public_of s))) (map public_parts (publics_among new))
    ∙ (ap (λ l. map place_parts rs ++ l) (sym (more_by (public_of s) (publics_among new)))
    ∙ (ap (λ (l : List Entry). map place_parts rs ++ map public_parts (publics_among l)) (sym follows)
    ∙ before)))
