-- Sections of the image as spans of addresses: the first that has an address is found.
use Rattle.std.proofs.Common.{◌≡◌, ℕ, zero, suc, ◌+◌, ◌-◌, ◌<◌, ◌&&◌, Bool, true, false, cond, List, [], ◌∷◌, length, get_or, take, Option, Some, None, refl, sym, ap, subst, ◌∙◌, arith}
use Rattle.std.specs.Prelude.{nat_le, nat_lt}
use Rattle.std.proofs.lemmas.Bool.{ltb-true}
use Rattle.std.proofs.lemmas.List.{get_or_default, get_or-take, length-take}
use Rattle.pdb.specs.ImageSectionHeader.{ImageSectionHeader}
use Rattle.pdb_places.specs.declared.span.Span.{Span}
use Rattle.pdb_places.specs.declared.painted.Cut.{Cut}
use Rattle.pdb_places.specs.AddressPlaces.{Holds, IsFirstHolding, holds, numbered, place_from}
use Rattle.pdb_places.specs.Painting.{has, first_with, owner_at, ArePaintedOf}
use Rattle.pdb_places.specs.PaintedSections.{IsSectionSpan, AreSectionSpans, IsFoundSection, AreSectionCuts, IsPlaced}
use Rattle.pdb_places.proofs.FirstSections.{held, is_held, not_held, first_counts}

-- ---- the first span, by positions

pub record IsFirstSpan (x : ℕ) (ss : List Span) (owner : ℕ) : Type 0 where
  pub at : ℕ
  pub there : at < length ss
  pub is : (d : Span) → (get_or ss at d).owner ≡ owner
  pub there_is : (d : Span) → has x (get_or ss at d) ≡ true
  pub first : (j : ℕ) (d : Span) → j < at → has x (get_or ss j d) ≡ false

first_span : (x : ℕ) (ss : List Span) (k : ℕ) → first_with x ss ≡ Some k → IsFirstSpan x ss k
first_span x [] k e = absurd cc
first_span x (s ∷ ss) k e = by_test (has x s) refl e (first_span x ss k)
  where
    by_test : (b : Bool) → has x s ≡ b → cond b (Some s.owner) (first_with x ss) ≡ Some k → (first_with x ss ≡ Some k → IsFirstSpan x ss k) → IsFirstSpan x (s ∷ ss) k
    by_test true h f rest = let same : s.owner ≡ k = cc in record { at = 0; there = omega arith; is = λ d. same; there_is = λ d. h; first = λ j d l. absurd (omega arith) }
    by_test false h f rest =
        let r = rest f in
        record { at = suc r.at; there = let t = r.there in omega arith; is = r.is; there_is = r.there_is; first = earlier r }
      where
        earlier : (r : IsFirstSpan x ss k) (j : ℕ) (d : Span) → j < suc r.at → has x (get_or (s ∷ ss) j d) ≡ false
        earlier r zero d l = h
        earlier r (suc j) d l = r.first j d (omega arith)

no_span : (x : ℕ) (ss : List Span) → first_with x ss ≡ None → (k : ℕ) (d : Span) → k < length ss → has x (get_or ss k d) ≡ false
no_span x [] e k d l = absurd (omega arith)
no_span x (s ∷ ss) e k d l = by_test (has x s) refl e k l (λ f j m. no_span x ss f j d m)
  where
    by_test : (b : Bool) → has x s ≡ b → cond b (Some s.owner) (first_with x ss) ≡ None → (k : ℕ) → k < length (s ∷ ss) → (first_with x ss ≡ None → (j : ℕ) → j < length ss → has x (get_or ss j d) ≡ false) → has x (get_or (s ∷ ss) k d) ≡ false
    by_test true h f k l rest = absurd cc
    by_test false h f zero l rest = h
    by_test false h f (suc k) l rest = rest f k (omega arith)

-- ---- spans of sections

a_section : ImageSectionHeader
a_section = record { name = []; virtual_size = 0; virtual_address = 0; size_of_raw_data = 0; pointer_to_raw_data = 0; pointer_to_relocations = 0; pointer_to_line_numbers = 0; number_of_relocations = 0; number_of_line_numbers = 0; characteristics = record { 0 = 0 } }

span_holds : (x : ℕ) (hs : List ImageSectionHeader) (k : ℕ) (s : Span) (h : ImageSectionHeader) → IsSectionSpan hs k s → has x s ≡ holds x (get_or hs k h)
span_holds x hs k s h is =
    ap (λ (n : ℕ). nat_le n x && nat_lt x s.end) (is.start h) ∙ ap (λ (n : ℕ). nat_le (get_or hs k h).virtual_address x && nat_lt x n) (is.end h)

differ : {b : Bool} → b ≡ false → b ≡ true → ⊥
differ h k = cc

a_span : Span
a_span = record { start = 0; end = 0; owner = 0; rises = omega arith }

found_section : (hs : List ImageSectionHeader) (ss : List Span) (x : ℕ) (o : Option ℕ) → AreSectionSpans hs ss → first_with x ss ≡ o → IsFoundSection hs x o
found_section hs ss x None are e = λ k h l held_at.
    let n = are.as_many in
    let m : k < length ss = omega arith in
    differ (sym (span_holds x hs k (get_or ss k a_span) h (are.each k a_span m)) ∙ no_span x ss e k a_span m) (held x (get_or hs k h) held_at)
found_section hs ss x (Some k) are e = λ h.
    let f = first_span x ss k e in
    let n = are.as_many in let t = f.there in
    let here = are.each f.at a_span f.there in
    let at : k ≡ f.at = sym (f.is a_span) ∙ here.owner in
    record {
      there = omega arith;
      is = get_or_default hs k (get_or hs k h) h (omega arith);
      holds = is_held x (get_or hs k h) (subst (λ (j : ℕ). holds x (get_or hs j h) ≡ true) (sym at) (sym (span_holds x hs f.at (get_or ss f.at a_span) h here) ∙ f.there_is a_span));
      first = λ j l held_at.
          let m : j < f.at = omega arith in
          let i : j < length ss = omega arith in
          differ (sym (span_holds x hs j (get_or ss j a_span) (get_or hs k h) (are.each j a_span i)) ∙ f.first j a_span m) (held x (get_or hs j (get_or hs k h)) held_at);
    }

pub cuts_of_sections : (hs : List ImageSectionHeader) (ss : List Span) (cs : List Cut) → AreSectionSpans (take 65535 hs) ss → ArePaintedOf ss cs → AreSectionCuts hs cs
cuts_of_sections hs ss cs are painted = record {
  cuts = painted.cuts;
  finds = λ x. found_section (take 65535 hs) ss x (owner_at x None cs) are (sym (painted.finds x));
  few = let n = are.as_many in let m = painted.two in omega (arith, length-take 65535 hs);
}

-- ---- the place

-- sections behind those that a place can name have no place
none_nameable : (x n : ℕ) (hs : List ImageSectionHeader) → ((k : ℕ) (h : ImageSectionHeader) → k < length hs → n + k < 65536 → Holds x (get_or hs k h) → ⊥) → place_from x n hs ≡ None
none_nameable x n [] h = refl
none_nameable x n (y ∷ hs) h = by_number (nat_lt n 65536) refl (none_nameable x (n + 1) hs (λ k d l m. h (suc k) d (omega arith) (omega arith)))
  where
    by_holds : (b : Bool) → place_from x (n + 1) hs ≡ None → cond b None (place_from x (n + 1) hs) ≡ None
    by_holds true rest = refl
    by_holds false rest = rest

    by_number : (b : Bool) → nat_lt n 65536 ≡ b → place_from x (n + 1) hs ≡ None → place_from x n (y ∷ hs) ≡ None
    by_number true e rest = let l = ltb-true n 65536 e in ap (λ (b : Bool). cond b (numbered n (x - y.virtual_address)) (place_from x (n + 1) hs)) (not_held x y (h 0 y (omega arith) (omega arith))) ∙ rest
    by_number false e rest = ap (λ (b : Bool). cond (holds x y) (cond b (Some (record { offset = x - y.virtual_address; section = n })) None) (place_from x (n + 1) hs)) e ∙ by_holds (holds x y) rest

pub no_place : (x : ℕ) (hs : List ImageSectionHeader) (cs : List Cut) → AreSectionCuts hs cs → owner_at x None cs ≡ None → place_from x 1 hs ≡ None
no_place x hs cs are e =
    let found = subst (IsFoundSection (take 65535 hs) x) e (are.finds x) in
    none_nameable x 1 hs (λ k h l m held_at.
    found k h (omega (arith, length-take 65535 hs)) (subst (Holds x) (sym (get_or-take 65535 hs k h (omega arith))) held_at))

-- the first section by its number

module _ (x : ℕ) (hs : List ImageSectionHeader) (cs : List Cut) (k : ℕ) (are : AreSectionCuts hs cs) (e : owner_at x None cs ≡ Some k) where
  found_at : (h : ImageSectionHeader) → IsFirstHolding x (take 65535 hs) k (get_or (take 65535 hs) k h)
  found_at = subst (IsFoundSection (take 65535 hs) x) e (are.finds x)

  there_at : ImageSectionHeader → (k < length hs) × (k < 65535)
  there_at h = let t = (found_at h).there in (omega (arith, length-take 65535 hs), omega (arith, length-take 65535 hs))

  same_at : (h : ImageSectionHeader) → get_or (take 65535 hs) k h ≡ get_or hs k h
  same_at h = let t = there_at h in get_or-take 65535 hs k h t.1

  holds_at : (h : ImageSectionHeader) → Holds x (get_or hs k h)
  holds_at h = subst (Holds x) (same_at h) (found_at h).holds

  first_at : (h : ImageSectionHeader) → IsFirstHolding x hs k (get_or hs k h)
  first_at h =
      let t = there_at h in let t0 = t.0 in let t1 = t.1 in
      let f = found_at h in
      record {
        there = t.0;
        is = get_or_default hs k (get_or hs k h) h t.0;
        holds = holds_at h;
        first = λ j l held_at.
            let m : j < length hs = omega arith in
            f.first j l (subst (Holds x) (get_or_default hs j (get_or hs k h) (get_or (take 65535 hs) k h) m ∙ sym (get_or-take 65535 hs j (get_or (take 65535 hs) k h) (omega arith))) held_at);
      }

  pub placed : IsPlaced x hs k
  placed = record {
    there = (there_at a_section).0;
    small = (there_at a_section).1;
    place = λ h. first_counts x hs k (get_or hs k h) (first_at h);
    from = λ h. (holds_at h).from;
    before = λ h. (holds_at h).before;
  }
