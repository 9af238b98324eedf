-- The address of a place leads back to it.
use Rattle.std.proofs.Common.{◌≡◌, ℕ, zero, suc, ◌+◌, ◌-◌, ◌<◌, ◌≤◌, Bool, true, false, cond, List, length, get_or, Option, Some, None, refl, sym, ap, ◌∙◌, arith, option_and_then, ◌⊎◌, inl, inr}
use Rattle.std.specs.Prelude.{nat_lt, slice_get}
use Rattle.std.specs.Option.{unwrap_or}
use Rattle.std.proofs.lemmas.Bool.{lt-ltb, ltb-true}
use Rattle.std.proofs.lemmas.Option.{get_or_from_slice_get, slice_get_cases}
use Rattle.pdb.specs.ImageSectionHeader.{ImageSectionHeader}
use Rattle.pdb.specs.PdbInternalSectionOffset.{PdbInternalSectionOffset}
use Rattle.pdb.specs.Tables.{Addresses}
use Rattle.pdb_places.specs.AddressPlaces.{Holds, numbered, place_from, place_in}
use Rattle.pdb_places.specs.PlaceAddresses.{AreSectionsApart, IsUnmoved, address_among, address_in, address_inside, back_through, section_numbered}
use Rattle.pdb_places.proofs.FirstSections.{first_counts}

-- ---- the parts of the address of a place

inside : (o : ℕ) (h : ImageSectionHeader) (b : Bool) (r : ℕ) → nat_lt o h.virtual_size ≡ b → cond b (Some (h.virtual_address + o)) None ≡ Some r → (o < h.virtual_size) × (h.virtual_address + o ≡ r)
inside o h true r e s = (ltb-true o h.virtual_size e, ap (λ (a : Option ℕ). unwrap_or a 0) s)
inside o h false r e s = absurd cc

in_section : (o : ℕ) (found : Option ImageSectionHeader) (r : ℕ) → option_and_then (address_inside o) found ≡ Some r → (h : ImageSectionHeader) × (found ≡ Some h) × (o < h.virtual_size) × (h.virtual_address + o ≡ r)
in_section o None r s = absurd cc
in_section o (Some h) r s = let x = inside o h (nat_lt o h.virtual_size) r refl s in (h, refl, x.0, x.1)

four_bytes : (x : ℕ) (b : Bool) (r : ℕ) → cond b (Some x) None ≡ Some r → x ≡ r
four_bytes x true r s = ap (λ (a : Option ℕ). unwrap_or a 0) s
four_bytes x false r s = absurd cc

unmoved : (t : Option ℕ) (r : ℕ) → option_and_then (back_through None) t ≡ Some r → t ≡ Some r
unmoved None r s = absurd cc
unmoved (Some x) r s = ap Some (four_bytes x (nat_lt x 0x1_0000_0000) r s)

-- ---- the section that has the address

in_range : (hs : List ImageSectionHeader) (k : ℕ) (h : ImageSectionHeader) → slice_get hs k ≡ Some h → ((x : ImageSectionHeader) × (k < length hs) × (slice_get hs k ≡ Some x) × (get_or hs k x ≡ x)) ⊎ ((length hs ≤ k) × (slice_get hs k ≡ None)) → k < length hs
in_range hs k h s (inl y) = y.1
in_range hs k h s (inr y) = absurd (no_header (sym s ∙ y.1))
  where
    no_header : Some h ≡ None → ⊥
    no_header e = absurd cc

there : (hs : List ImageSectionHeader) (k : ℕ) (h : ImageSectionHeader) → slice_get hs k ≡ Some h → k < length hs
there hs k h s = in_range hs k h s ((slice_get_cases hs k).1)

small : (n o : ℕ) → n < 65536 → numbered n o ≡ Some (record { offset = o; section = n })
small n o lt = ap (λ (b : Bool). cond b (Some (record { offset = o; section = n })) None) (lt-ltb n 65536 lt)

in_place : (hs : List ImageSectionHeader) (k o r : ℕ) (h : ImageSectionHeader) → AreSectionsApart hs → slice_get hs k ≡ Some h → o < h.virtual_size → h.virtual_address + o ≡ r → suc k < 65536
    → place_from r 1 hs ≡ Some (record { offset = o; section = suc k })
in_place hs k o r h apart s lt at few =
    let long = there hs k h s in
    let is : get_or hs k h ≡ h = get_or_from_slice_get hs k h h s in
    let has : Holds r h = record { from = omega (arith, at); before = omega (arith, at, lt) } in
    let found = first_counts r hs k h (record { there = long; is = is; holds = has; first = λ j l other. omega (arith, l, apart j k h r (omega (arith, l, long)) long other (rw is has)) }) in
    let offset : r - h.virtual_address ≡ o = omega (arith, at) in
    let number : k + 1 ≡ suc k = omega arith in
    found ∙ rw (offset, number) (small (suc k) o few)

leads_at : (hs : List ImageSectionHeader) (n o r : ℕ) → AreSectionsApart hs → n < 65536 → option_and_then (address_inside o) (section_numbered hs n) ≡ Some r → place_from r 1 hs ≡ Some (record { offset = o; section = n })
leads_at hs zero o r apart few s = absurd cc
leads_at hs (suc k) o r apart few s = let x = in_section o (slice_get hs k) r s in in_place hs k o r x.0 apart x.1 x.2 x.3 few

pub leads_back : (a : Addresses) (q : PdbInternalSectionOffset) (r : ℕ) → IsUnmoved a → AreSectionsApart a.original_sections → q.section < 65536 → address_in a q ≡ Some r → place_in a r ≡ Some q
unfolding address_in
leads_back a q r still apart few s =
    let t = unmoved (address_among a.original_sections q) r (rw still.back at s) in
    rw still.there (leads_at a.original_sections q.section q.offset r apart few t)
