-- When a range covers a place, by where both stand among the places of all sections.
use Rattle.std.proofs.Common.{◌≡◌, ℕ, ◌+◌, ◌*◌, ◌^◌, ◌<◌, ◌≤◌, ◌&&◌, Bool, true, false, refl, sym, ap, ◌∙◌, arith}
use Rattle.std.specs.Prelude.{◌==◌, nat_le, nat_lt, min}
use Rattle.std.proofs.lemmas.Bool.{eq-eqb, eqb-true, le-leb, leb-true, lt-ltb, ltb-true}
use Rattle.pdb.specs.PdbInternalSectionOffset.{PdbInternalSectionOffset}
use Rattle.pdb.specs.LineOrder.{order_of}
use Rattle.pdb_places.specs.declared.range.CodeRange.{CodeRange}
use Rattle.pdb_places.specs.RangeOrder.{start_of, end_of, Same}
use Rattle.pdb_places.specs.Covering.{Covers, covers}

pub never : (b : Bool) → (b ≡ true → ⊥) → b ≡ false
never true h = absurd (h refl)
never false h = refl

both : (a b c : Bool) → (a && (b && c)) ≡ true → (a ≡ true) × (b ≡ true) × (c ≡ true)
both true true true e = (refl, refl, refl)
both true true false e = absurd cc
both true false c e = absurd cc
both false b c e = absurd cc

pub is_covered : (q : PdbInternalSectionOffset) (r : CodeRange) → covers q r ≡ true → Covers q r
is_covered q r e =
    let t = both (r.place.section == q.section) (nat_le r.place.offset q.offset) (nat_lt q.offset (r.place.offset + r.length)) e in
    record {
      section = eqb-true r.place.section q.section t.0;
      from = leb-true r.place.offset q.offset t.1;
      before = ltb-true q.offset (r.place.offset + r.length) t.2;
    }

pub covered_is : (q : PdbInternalSectionOffset) (r : CodeRange) → Covers q r → covers q r ≡ true
covered_is q r h =
    ap (λ (b : Bool). b && (nat_le r.place.offset q.offset && nat_lt q.offset (r.place.offset + r.length))) (eq-eqb r.place.section q.section h.section)
    ∙ (ap (λ (b : Bool). b && nat_lt q.offset (r.place.offset + r.length)) (le-leb r.place.offset q.offset h.from)
    ∙ lt-ltb q.offset (r.place.offset + r.length) h.before)

-- ---- over numbers

one_section : (s o l t p : ℕ) → o < 2 ^ 32 → p < 2 ^ 32 → s * 2 ^ 32 + o ≤ t * 2 ^ 32 + p → t * 2 ^ 32 + p < s * 2 ^ 32 + min (o + l) (2 ^ 32) → s ≡ t
one_section s o l t p a b from before = omega arith

pub between : (q : PdbInternalSectionOffset) (r : CodeRange) → q.offset < 2 ^ 32 → start_of r ≤ order_of q → order_of q < end_of r → Covers q r
between q r fits from before =
    let o = r.fits in
    let s : r.place.section ≡ q.section = one_section r.place.section r.place.offset r.length q.section q.offset o fits from before in
    record { section = s; from = omega arith; before = omega arith }

pub covers_between : (q : PdbInternalSectionOffset) (r : CodeRange) → q.offset < 2 ^ 32 → Covers q r → (start_of r ≤ order_of q) × (order_of q < end_of r)
covers_between q r fits h =
    let s = h.section in let f = h.from in let b = h.before in
    (omega arith, omega arith)

pub not_behind : (q : PdbInternalSectionOffset) (r : CodeRange) → q.offset < 2 ^ 32 → end_of r ≤ order_of q → covers q r ≡ false
not_behind q r fits h = never (covers q r) (λ e. let b = covers_between q r fits (is_covered q r e) in absurd (omega arith))

pub not_before : (q : PdbInternalSectionOffset) (r : CodeRange) → q.offset < 2 ^ 32 → order_of q < start_of r → covers q r ≡ false
not_before q r fits h = never (covers q r) (λ e. let b = covers_between q r fits (is_covered q r e) in absurd (omega arith))

-- ---- ranges of the same bytes

pub start_end : (r : CodeRange) → start_of r ≤ end_of r
start_end r = let f = r.fits in omega arith

pub start_below : (r : CodeRange) → 0 < r.length → start_of r < end_of r
start_below r h = let f = r.fits in omega arith

pub same_start : (r s : CodeRange) → Same r s → start_of r ≡ start_of s
same_start r s h = let a = h.0 in let b = h.1 in omega arith

pub same_end : (r s : CodeRange) → Same r s → end_of r ≡ end_of s
same_end r s h = let a = h.0 in let b = h.1 in let c = h.2 in omega arith

pub same_covers : (q : PdbInternalSectionOffset) (r s : CodeRange) → Same r s → Covers q r → Covers q s
same_covers q r s h k =
    let a = h.0 in let b = h.1 in let c = h.2 in
    let d = k.section in let e = k.from in let f = k.before in
    record { section = omega arith; from = omega arith; before = omega arith }

pub same_sym : (r s : CodeRange) → Same r s → Same s r
same_sym r s h = (sym h.0, sym h.1, sym h.2)
