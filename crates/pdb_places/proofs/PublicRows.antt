-- Public symbols in the order of their rows: the last row at or before a place is that of the nearest one.
use Rattle.std.proofs.Common.{◌≡◌, ℕ, ◌+◌, ◌-◌, ◌*◌, ◌^◌, ◌<◌, ◌≤◌, inl, inr, List, [], ◌∷◌, length, get_or, map, Option, Some, None, All, refl, sym, subst, ap, ◌∙◌, arith}
use Rattle.std.specs.Option.{option_map}
use Rattle.std.proofs.lemmas.Bool.{cases_lt}
use Rattle.std.proofs.lemmas.List.{get_or-map, get_or_default, length-map}
use Rattle.std.proofs.lemmas.List.Sorted.{All-permutation, IsPermutation-sym, length_permutation}
use Rattle.pdb.specs.PdbInternalSectionOffset.{PdbInternalSectionOffset}
use Rattle.pdb.specs.LineOrder.{order_of}
use Rattle.pdb_places.specs.declared.public_place.PublicPlace.{PublicPlace}
use Rattle.pdb_places.specs.PublicNames.{PublicAt, StandsUpto, public_before}
use Rattle.pdb_places.specs.PublicTable.{place_parts, public_parts, public_index, key_of, key_upto, IsUptoCount, IsPublicTable}
use Rattle.pdb_places.proofs.Nearest.{none_before, nearest_found}

abbrev Parts : Type 0
Parts = ℕ × PdbInternalSectionOffset

-- ---- rows and public symbols

pub rows_count : (ps : List PublicAt) (rs : List PublicPlace) → IsPublicTable ps rs → length rs ≡ length ps
rows_count ps rs t =
    length_permutation t.listed rs t.all ∙ (sym (length-map t.listed place_parts) ∙ (ap (λ (l : List Parts). length l) t.rows ∙ length-map ps public_parts))

parts_at : (ps : List PublicAt) (rs : List PublicPlace) → map place_parts rs ≡ map public_parts ps → (k : ℕ) (d : PublicPlace) (e : PublicAt) → k < length rs → place_parts (get_or rs k d) ≡ public_parts (get_or ps k e)
parts_at ps rs same k d e l =
    let count = sym (length-map rs place_parts) ∙ (ap (λ (l : List Parts). length l) same ∙ length-map ps public_parts) in
    sym (get_or-map place_parts rs k d (place_parts d) l)
    ∙ (ap (λ (l : List Parts). get_or l k (place_parts d)) same
    ∙ get_or-map public_parts ps k e (place_parts d) (omega (arith, l, count)))

-- the row of a public symbol
record HasRow (rs : List PublicPlace) (p : PublicAt) : Type 0 where
  row : PublicPlace
  at : ℕ
  there : at < length rs
  is : (e : PublicPlace) → get_or rs at e ≡ row
  parts : place_parts row ≡ public_parts p

-- a row stands in a list
abbrev In : List PublicPlace → PublicPlace → Type 0
In rs r = (j : ℕ) × (j < length rs) × ((e : PublicPlace) → get_or rs j e ≡ r)

all_in : (rs : List PublicPlace) → All (In rs) rs
all_in rs j d l = (j, l, λ e. get_or_default rs j e d l)

has_row_in : (ps : List PublicAt) (rs listed : List PublicPlace) → map place_parts listed ≡ map public_parts ps → All (In rs) listed → (k : ℕ) (p : PublicAt) → k < length ps → get_or ps k p ≡ p → HasRow rs p
has_row_in ps rs [] same all k p l is =
    let count = ap (λ (l : List Parts). length l) same ∙ length-map ps public_parts in absurd (omega (arith, l, count))
has_row_in ps rs (x ∷ xs) same all k p l is =
    let count = sym (length-map (x ∷ xs) place_parts) ∙ (ap (λ (l : List Parts). length l) same ∙ length-map ps public_parts) in
    let there : k < length (x ∷ xs) = omega (arith, l, count) in
    let found = all k x there in
    record {
      row = get_or (x ∷ xs) k x;
      at = found.0;
      there = found.1;
      is = found.2;
      parts = parts_at ps (x ∷ xs) same k x p there ∙ ap public_parts is;
    }

has_row : (ps : List PublicAt) (rs : List PublicPlace) → IsPublicTable ps rs → (k : ℕ) (p : PublicAt) → k < length ps → get_or ps k p ≡ p → HasRow rs p
has_row ps rs t k p l is = has_row_in ps rs t.listed t.rows (All-permutation (In rs) rs t.listed (IsPermutation-sym t.listed rs t.all) (all_in rs)) k p l is

-- the public symbol of a row
abbrev HasPublic : List PublicAt → PublicPlace → Type 0
HasPublic ps r = (k : ℕ) × (k < length ps) × ((e : PublicAt) → place_parts r ≡ public_parts (get_or ps k e))

has_public : (ps : List PublicAt) (rs : List PublicPlace) → IsPublicTable ps rs → All (HasPublic ps) rs
has_public ps rs t = All-permutation (HasPublic ps) t.listed rs t.all (λ k d l.
    let count = sym (length-map t.listed place_parts) ∙ (ap (λ (l : List Parts). length l) t.rows ∙ length-map ps public_parts) in
    (k, omega (arith, l, count), λ e. parts_at ps t.listed t.rows k d e l))

-- ---- the order

-- keys in order have their places in order
keys_places : (x y a b : ℕ) → x * 2 ^ 32 + a ≤ y * 2 ^ 32 + b → b < 2 ^ 32 → x ≤ y
keys_places x y a b h f = omega (arith, h, f)

places_keys : (x y a b : ℕ) → x ≤ y → a ≤ 0xffffffff → x * 2 ^ 32 + a ≤ y * 2 ^ 32 + 0xffffffff
places_keys x y a b h f = omega (arith, h, f)

module _ (q : PdbInternalSectionOffset) (fits : q.offset < 2 ^ 32) (ps : List PublicAt) (rs : List PublicPlace) (table : IsPublicTable ps rs) (n : ℕ) (count : IsUptoCount (key_upto q) rs n) where
  -- the row of one that stands at or before the place is among the first n
  upto_row : (p : PublicAt) → StandsUpto q p → (h : HasRow rs p) → (key_of h.row ≤ key_upto q) × (h.at < n)
  upto_row p s h =
      let section : h.row.place.section ≡ q.section = ap (λ (z : Parts). z.1.section) h.parts ∙ s.section in
      let offset : h.row.place.offset ≡ p.place.offset = ap (λ (z : Parts). z.1.offset) h.parts in
      let upto : order_of h.row.place ≤ order_of q = omega (arith, section, offset, s.upto) in
      let key : key_of h.row ≤ key_upto q = places_keys (order_of h.row.place) (order_of q) (0xffffffff - h.row.index) 0 upto (omega arith) in (
        key,
        elim (cases_lt h.at n) [
          | inl before ↦ before
          | inr behind ↦ (let above = count.above h.at h.row behind h.there in absurd (omega (arith, key, subst (λ (r : PublicPlace). key_upto q < key_of r) (h.is h.row) above)))
        ],
      )

  pub none_counted : n ≡ 0 → option_map public_index (public_before q ps) ≡ None
  none_counted zero_is = ap (option_map public_index) (by (public_before q ps) refl)
    where
      by : (o : Option PublicAt) → public_before q ps ≡ o → o ≡ None
      by None e = refl
      by (Some p) e =
          let found = nearest_found q ps p e in
          let row = upto_row p found.1.stands (has_row ps rs table found.0 p found.1.there found.1.is) in
          absurd (omega (arith, zero_is, row.1))

  module _ (some : 0 < n) (c : PublicPlace) (is : get_or rs (n - 1) c ≡ c) where
    last_there : n - 1 < length rs
    last_there = omega (arith, some, count.inside)

    last_upto : key_of c ≤ key_upto q
    last_upto = subst (λ (r : PublicPlace). key_of r ≤ key_upto q) is (count.below (n - 1) c (omega (arith, some)))

    last_place : order_of c.place ≤ order_of q
    last_place = keys_places (order_of c.place) (order_of q) (0xffffffff - c.index) 0xffffffff last_upto (omega arith)

    -- no row of the first n stands behind the last of them
    upto_last : (p : PublicAt) (h : HasRow rs p) → h.at < n → key_of h.row ≤ key_of c
    upto_last p h l =
        let rises = table.rises h.at (n - 1) c (omega (arith, l)) last_there in
        subst (λ (r : PublicPlace). key_of h.row ≤ key_of r) is (subst (λ (r : PublicPlace). key_of r ≤ key_of (get_or rs (n - 1) c)) (h.is c) rises)

    pub other_counted : (c.place.section ≡ q.section → ⊥) → option_map public_index (public_before q ps) ≡ None
    other_counted other = ap (option_map public_index) (by (public_before q ps) refl)
      where
        by : (o : Option PublicAt) → public_before q ps ≡ o → o ≡ None
        by None e = refl
        by (Some p) e =
            let found = nearest_found q ps p e in
            let h = has_row ps rs table found.0 p found.1.there found.1.is in
            let row = upto_row p found.1.stands h in
            let key = upto_last p h row.1 in
            let place : order_of h.row.place ≤ order_of c.place = keys_places (order_of h.row.place) (order_of c.place) (0xffffffff - h.row.index) (0xffffffff - c.index) key (omega arith) in
            let section : h.row.place.section ≡ q.section = ap (λ (z : Parts). z.1.section) h.parts ∙ found.1.stands.section in
            absurd (other (one_section h.row.place c.place place last_place section h.row.place_fits c.place_fits))
          where
            one_section : (a b : PdbInternalSectionOffset) → order_of a ≤ order_of b → order_of b ≤ order_of q → a.section ≡ q.section → a.offset < 2 ^ 32 → b.offset < 2 ^ 32 → b.section ≡ q.section
            one_section a b h k s f g = omega (arith, h, k, s, f, g, fits)

    pub found_counted : c.place.section ≡ q.section → option_map public_index (public_before q ps) ≡ Some c.index
    found_counted section =
        let own = has_public ps rs table (n - 1) c last_there in
        by own.0 own.1 (λ e. sym (own.2 e) ∙ ap place_parts is) (public_before q ps) refl
      where
        stands : (k : ℕ) (e : PublicAt) → public_parts (get_or ps k e) ≡ place_parts c → StandsUpto q (get_or ps k e)
        stands k e same = record {
          section = ap (λ (z : Parts). z.1.section) same ∙ section;
          upto = (let o : (get_or ps k e).place.offset ≡ c.place.offset = ap (λ (z : Parts). z.1.offset) same in omega (arith, o, section, last_place));
        }

        by : (k : ℕ) → k < length ps → ((e : PublicAt) → public_parts (get_or ps k e) ≡ place_parts c) → (o : Option PublicAt) → public_before q ps ≡ o → option_map public_index o ≡ Some c.index
        by k l same None e = let d : PublicAt = record { index = 0; place = q; name = [] } in absurd (none_before q ps e k d l (stands k d (same d)))
        by k l same (Some p) e =
            let found = nearest_found q ps p e in
            let m = found.1 in
            let h = has_row ps rs table found.0 p m.there m.is in
            let row = upto_row p m.stands h in
            let key = upto_last p h row.1 in
            let index : h.row.index ≡ p.index = ap (λ (z : Parts). z.0) h.parts in
            let offset : h.row.place.offset ≡ p.place.offset = ap (λ (z : Parts). z.1.offset) h.parts in
            let area : h.row.place.section ≡ q.section = ap (λ (z : Parts). z.1.section) h.parts ∙ m.stands.section in
            let own : (get_or ps k p).place.offset ≡ c.place.offset = ap (λ (z : Parts). z.1.offset) (same p) in
            let number : (get_or ps k p).index ≡ c.index = ap (λ (z : Parts). z.0) (same p) in
            let near = m.nearest k l (stands k p (same p)) in
            let place : order_of h.row.place ≤ order_of c.place = keys_places (order_of h.row.place) (order_of c.place) (0xffffffff - h.row.index) (0xffffffff - c.index) key (omega arith) in
            let level : h.row.place.offset ≡ c.place.offset = omega (arith, place, area, section, offset, own, near) in
            let upper : c.index ≤ p.index = omega (arith, key, level, area, section, index, h.row.index_fits, c.index_fits) in
            let lower : p.index ≤ c.index = elim (cases_lt k found.0) [
              | inl before ↦ (let less = m.first k before (stands k p (same p)) in absurd (omega (arith, less, own, level, offset)))
              | inr not ↦ first_index found.0 k p not l m.is number
            ] in
            let at : p.index ≡ c.index = omega (arith, upper, lower) in
            ap Some at
          where
            first_index : (i k : ℕ) (p : PublicAt) → i ≤ k → k < length ps → get_or ps i p ≡ p → (get_or ps k p).index ≡ c.index → p.index ≤ c.index
            first_index i k p le l is number = elim (cases_lt i k) [
              | inl before ↦ (let r = table.rising i k p before l in let a : (get_or ps i p).index ≡ p.index = ap public_index is in omega (arith, r, a, number))
              | inr not ↦ (let same : k ≡ i = omega (arith, le, not) in let a : (get_or ps k p).index ≡ p.index = ap (λ (x : ℕ). (get_or ps x p).index) same ∙ ap public_index is in omega (arith, a, number))
            ]
