-- Halving finds the first range that covers a place, where ranges stand in order.
use Rattle.std.proofs.Common.{◌≡◌, ℕ, zero, suc, ◌+◌, ◌-◌, ◌/◌, ◌^◌, ◌<◌, ◌≤◌, inl, inr, Bool, true, false, cond, List, [], ◌∷◌, length, get_or, drop, Option, Some, None, refl, sym, ap, ◌∙◌, arith, drop-cons}
use Rattle.std.specs.Prelude.{nat_le}
use Rattle.std.proofs.lemmas.Bool.{cases_lt, leb-true, leb-false}
use Rattle.std.proofs.lemmas.List.{get_or_default}
use Rattle.std.proofs.Math.Nat.{pow-succ'}
use Rattle.pdb.specs.PdbInternalSectionOffset.{PdbInternalSectionOffset}
use Rattle.pdb.specs.LineOrder.{order_of}
use Rattle.pdb_places.specs.declared.range.CodeRange.{CodeRange}
use Rattle.pdb_places.specs.RangeOrder.{start_of, end_of, InOrder}
use Rattle.pdb_places.specs.Covering.{covers, first_covering, payload_upto}
use Rattle.pdb_places.proofs.Coverings.{not_behind, not_before, between, covered_is}
use Rattle.pdb_places.proofs.Orders.{goes_ends, goes_starts}

-- ---- the first of a list

pub none_covers : (q : PdbInternalSectionOffset) (rs : List CodeRange) → ((k : ℕ) (d : CodeRange) → k < length rs → covers q (get_or rs k d) ≡ false) → first_covering q rs ≡ None
none_covers q [] h = refl
none_covers q (r ∷ rs) h =
    ap (λ (b : Bool). cond b (Some r.payload) (first_covering q rs)) (h 0 r (omega arith))
    ∙ none_covers q rs (λ k d l. h (suc k) d (omega arith))

-- those before place n don't cover
pub behind_those : (q : PdbInternalSectionOffset) (rs : List CodeRange) (n : ℕ) → n ≤ length rs → ((k : ℕ) (d : CodeRange) → k < n → covers q (get_or rs k d) ≡ false) → first_covering q rs ≡ first_covering q (drop n rs)
behind_those q rs zero l h = refl
behind_those q [] (suc n) l h = refl
behind_those q (r ∷ rs) (suc n) l h =
    ap (λ (b : Bool). cond b (Some r.payload) (first_covering q rs)) (h 0 r (omega arith))
    ∙ behind_those q rs n (omega arith) (λ k d m. h (suc k) d (omega arith))

-- none from place n on covers
pub none_from : (q : PdbInternalSectionOffset) (rs : List CodeRange) (n : ℕ) → ((k : ℕ) (d : CodeRange) → n ≤ k → k < length rs → covers q (get_or rs k d) ≡ false) → first_covering q (drop n rs) ≡ None
none_from q rs zero h = none_covers q rs (λ k d l. h k d (omega arith) l)
none_from q [] (suc n) h = refl
none_from q (r ∷ rs) (suc n) h = none_from q rs n (λ k d l m. h (suc k) d (omega arith) (omega arith))

-- ---- the probes

abbrev Fewer : ℕ → ℕ → Type 0
Fewer n digits = (m : ℕ) × (digits ≡ suc m) × (n / 2 < 2 ^ m)

half_fewer : (n digits : ℕ) → 0 < n → n < 2 ^ digits → Fewer n digits
half_fewer n zero h k = absurd (omega arith)
half_fewer n (suc m) h k = (m, refl, omega (arith, pow-succ' 2 m))

-- those before low end at or before q; what was found is the first of those from high on; each look took a binary digit
pub record IsHalved (q : PdbInternalSectionOffset) (rs : List CodeRange) (low high : ℕ) (found : Option ℕ) (before now : ℕ) : Type 0 where
  pub ordered : low ≤ high
  pub inside : high ≤ length rs
  pub below : (k : ℕ) (d : CodeRange) → k < low → end_of (get_or rs k d) ≤ order_of q
  pub so_far : found ≡ first_covering q (drop high rs)
  pub probes : (digits : ℕ) → length rs < 2 ^ digits → (rest : ℕ) × (now + rest ≤ before + digits) × (high - low < 2 ^ rest)

module _ (q : PdbInternalSectionOffset) (rs : List CodeRange) (low high middle : ℕ) (found : Option ℕ) (before now : ℕ) (fits : q.offset < 2 ^ 32) (halved : IsHalved q rs low high found before now) (order : InOrder rs) (goes : low < high) (is : middle ≡ low + (high - low) / 2) (r : CodeRange) (r_is : r ≡ get_or rs middle r) where
  middle_inside : middle < high
  middle_inside = omega arith

  middle_there : middle < length rs
  middle_there = let i = halved.inside in let m = middle_inside in omega arith

  halves : (digits : ℕ) → length rs < 2 ^ digits → (rest : ℕ) × (now + 1 + rest ≤ before + digits) × ((high - low) / 2 < 2 ^ rest)
  halves digits h =
      let p = halved.probes digits h in
      let f = half_fewer (high - low) p.0 (omega arith) p.2 in
      let a = p.1 in let b = f.1 in
      (f.0, omega arith, f.2)

  pub goes_up : end_of r ≤ order_of q → IsHalved q rs (middle + 1) high found before (now + 1)
  goes_up h = record {
    ordered = let m = middle_inside in omega arith;
    inside = halved.inside;
    below = λ k d l. elim (cases_lt k middle) [
      | inl further ↦ (let e = goes_ends (get_or rs k r) (get_or rs middle r) (order.go k middle r further middle_there) in rw (get_or_default rs k d r (let m = middle_there in omega arith)) (let f = ap end_of r_is in omega arith))
      | inr last ↦ (let here : k ≡ middle = omega arith in rw (here, get_or_default rs middle d r middle_there, ← r_is) h)
    ];
    so_far = halved.so_far;
    probes = λ digits h. let p = halves digits h in let b = p.2 in (p.0, p.1, omega arith);
  }

  starts_behind : (k : ℕ) (d : CodeRange) → middle ≤ k → k < length rs → start_of r ≤ start_of (get_or rs k d)
  starts_behind k d l m = rw (get_or_default rs k d r m) (elim (cases_lt middle k) [
    | inl further ↦ (let e = goes_starts (get_or rs middle r) (get_or rs k r) (order.go middle k r further m) in let f = ap start_of r_is in omega arith)
    | inr last ↦ (let here : k ≡ middle = omega arith in let f = ap start_of r_is in rw here (omega arith))
  ])

  -- what is found where a range ends behind q: it covers q, or all from it on begin behind q
  looked_at : (b : Bool) → nat_le (start_of r) (order_of q) ≡ b → order_of q < end_of r → cond b (Some r.payload) None ≡ first_covering q (drop middle rs)
  looked_at true e h =
      sym (ap (first_covering q) (drop_at ∙ ap (λ (x : CodeRange). x ∷ drop (suc middle) rs) (sym r_is))
      ∙ ap (λ (b : Bool). cond b (Some r.payload) (first_covering q (drop (suc middle) rs))) (covered_is q r (between q r fits (leb-true (start_of r) (order_of q) e) h)))
    where
      drop_at : drop middle rs ≡ get_or rs middle r ∷ drop (suc middle) rs
      drop_at = drop-cons rs middle r middle_there
  looked_at false e h =
      let a = leb-false (start_of r) (order_of q) e in
      sym (none_from q rs middle (λ k d l m. let b = starts_behind k d l m in not_before q (get_or rs k d) fits (omega arith)))

  pub goes_down : order_of q < end_of r → IsHalved q rs low middle (payload_upto (order_of q) r) before (now + 1)
  goes_down h = record {
    ordered = omega arith;
    inside = let m = middle_there in omega arith;
    below = halved.below;
    so_far = looked_at (nat_le (start_of r) (order_of q)) refl h;
    probes = λ digits h. let p = halves digits h in let b = p.2 in (p.0, p.1, omega arith);
  }

-- nothing is left between
pub all_halved : (q : PdbInternalSectionOffset) (rs : List CodeRange) (low high : ℕ) (found : Option ℕ) (before now : ℕ) → q.offset < 2 ^ 32 → IsHalved q rs low high found before now → high ≤ low → found ≡ first_covering q rs
all_halved q rs low high found before now fits h e =
    let same : low ≡ high = let o = h.ordered in omega arith in
    let inside = h.inside in
    h.so_far ∙ (ap (λ (n : ℕ). first_covering q (drop n rs)) (sym same)
    ∙ sym (behind_those q rs low (omega arith) (λ k d l. not_behind q (get_or rs k d) fits (h.below k d l))))

pub below_power : (n : ℕ) → n < 2 ^ n
below_power zero = omega arith
below_power (suc n) = let h = below_power n in omega (arith, pow-succ' 2 n)
