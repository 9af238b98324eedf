-- Halving finds how many subsections stand at or before a place.
use Rattle.std.proofs.Common.{◌≡◌, ℕ, zero, suc, ◌+◌, ◌-◌, ◌/◌, ◌^◌, ◌<◌, ◌≤◌, Bool, true, false, List, length, get_or, refl, sym, ap, ◌∙◌, arith}
use Rattle.std.proofs.lemmas.Bool.{leb-true, le-leb}
use Rattle.std.proofs.lemmas.List.{get_or-map, length-map}
use Rattle.std.proofs.Math.Nat.{pow-succ'}
use Rattle.pdb_base.specs.declared.index.PdbInternalSectionOffset.{PdbInternalSectionOffset}
use Rattle.pdb_modules.specs.declared.line_program.Listed.{Listed}
use Rattle.pdb_modules.specs.Lines.{Subsection}
use Rattle.pdb_modules.specs.KeptRows.{subsection_of}
use Rattle.pdb_modules.specs.LineOrder.{order_of, is_upto, InOrder}
use Rattle.pdb_modules.specs.LineProgram.{listed_subsections}

-- ---- the order

pub upto_trans : (p q r : PdbInternalSectionOffset) → is_upto p q ≡ true → is_upto q r ≡ true → is_upto p r ≡ true
upto_trans p q r h k =
    let a = leb-true (order_of p) (order_of q) h in
    let b = leb-true (order_of q) (order_of r) k in
    le-leb (order_of p) (order_of r) (omega arith)

never : (b : Bool) → (b ≡ true → ⊥) → b ≡ false
never true h = absurd (h refl)
never false h = refl

-- ---- the probes

abbrev Fewer : ℕ → ℕ → Type 0
Fewer n digits = (m : ℕ) × (digits ≡ suc m) × (n / 2 < 2 ^ m)

pub half_fewer : (n digits : ℕ) → 0 < n → n < 2 ^ digits → Fewer n digits
half_fewer n zero h k = absurd (omega arith)
half_fewer n (suc m) h k = (m, refl, omega (arith, pow-succ' 2 m))

-- low subsections are known to stand at or before q, and those from high on behind it; each probe took a binary digit
pub record IsHalved (q : PdbInternalSectionOffset) (ls : List Listed) (low high before now : ℕ) : Type 0 where
  pub ordered : low ≤ high
  pub inside : high ≤ length ls
  pub below : (k : ℕ) (d : Subsection) → k < low → is_upto (get_or (listed_subsections ls) k d).place q ≡ true
  pub above : (k : ℕ) (d : Subsection) → high ≤ k → k < length ls → is_upto (get_or (listed_subsections ls) k d).place q ≡ false
  pub probes : (digits : ℕ) → length ls < 2 ^ digits → (rest : ℕ) × (now + rest ≤ before + digits) × (high - low < 2 ^ rest)
  pub grows : before ≤ now
  pub asks : now ≡ before → high - low ≡ length ls

module _ (q : PdbInternalSectionOffset) (ls : List Listed) (low high middle before now : ℕ) (r : Listed) (halved : IsHalved q ls low high before now) (order : InOrder (listed_subsections ls)) (goes : low < high) (is : middle ≡ low + (high - low) / 2) where
  middle_inside : middle < high
  middle_inside = omega arith

  middle_there : middle < length ls
  middle_there = let i = halved.inside in let m = middle_inside in omega arith

  subsections_counted : length (listed_subsections ls) ≡ length ls
  subsections_counted = length-map ls (λ (l : Listed). subsection_of l.part)

  module _ (t : PdbInternalSectionOffset) (t_is : t ≡ (get_or ls middle r).part.place) where
    at_middle : (d : Subsection) → t ≡ (get_or (listed_subsections ls) middle d).place
    at_middle d = t_is ∙ ap (λ (s : Subsection). s.place) (sym (get_or-map (λ (l : Listed). subsection_of l.part) ls middle r d middle_there))

    halves : (digits : ℕ) → length ls < 2 ^ digits → (rest : ℕ) × (now + 1 + rest ≤ before + digits) × ((high - low) / 2 < 2 ^ rest)
    halves digits h =
        let p = halved.probes digits h in
        let f = half_fewer (high - low) p.0 (omega arith) p.2 in
        let a = p.1 in let b = f.1 in
        (f.0, omega arith, f.2)

    pub goes_up : is_upto t q ≡ true → IsHalved q ls (middle + 1) high before (now + 1)
    goes_up test = record {
      ordered = let m = middle_inside in omega arith;
      inside = halved.inside;
      below = λ k d h. upto_trans (get_or (listed_subsections ls) k d).place (get_or (listed_subsections ls) middle d).place q
          (le-leb (order_of (get_or (listed_subsections ls) k d).place) (order_of (get_or (listed_subsections ls) middle d).place) (order k middle d (omega arith) (let n = subsections_counted in let m = middle_there in omega arith)))
          (ap (λ (p : PdbInternalSectionOffset). is_upto p q) (sym (at_middle d)) ∙ test);
      above = halved.above;
      probes = λ digits h. let p = halves digits h in let b = p.2 in (p.0, p.1, omega arith);
      grows = let g = halved.grows in omega arith;
      asks = λ e. let g = halved.grows in absurd (omega (arith, e, g));
    }

    pub goes_down : is_upto t q ≡ false → IsHalved q ls low middle before (now + 1)
    goes_down test = record {
      ordered = omega arith;
      inside = let m = middle_there in omega arith;
      below = halved.below;
      above = λ k d h l. never (is_upto (get_or (listed_subsections ls) k d).place q) (λ e.
          let first = upto_trans (get_or (listed_subsections ls) middle d).place (get_or (listed_subsections ls) k d).place q (le-leb (order_of (get_or (listed_subsections ls) middle d).place) (order_of (get_or (listed_subsections ls) k d).place) (order middle k d h (let n = subsections_counted in omega arith))) e in
          let no = ap (λ (p : PdbInternalSectionOffset). is_upto p q) (sym (at_middle d)) ∙ test in
          cc);
      probes = λ digits h. let p = halves digits h in let b = p.2 in (p.0, p.1, omega arith);
      grows = let g = halved.grows in omega arith;
      asks = λ e. let g = halved.grows in absurd (omega (arith, e, g));
    }

-- where some stand at or before q, the last of them lies in q's section or not
pub record IsInSection (q : PdbInternalSectionOffset) (ls : List Listed) (low : ℕ) (in_section : Bool) : Type 0 where
  pub here : in_section ≡ true → (d : Subsection) → 0 < low → (get_or (listed_subsections ls) (low - 1) d).place.section ≡ q.section
  pub elsewhere : in_section ≡ false → (d : Subsection) → 0 < low → (get_or (listed_subsections ls) (low - 1) d).place.section ≡ q.section → ⊥

module _ (q : PdbInternalSectionOffset) (ls : List Listed) (middle : ℕ) (r : Listed) (there : middle < length ls) (t : PdbInternalSectionOffset) (t_is : t ≡ (get_or ls middle r).part.place) where
  last_is : (d : Subsection) → t ≡ (get_or (listed_subsections ls) (middle + 1 - 1) d).place
  last_is d =
      let same : middle + 1 - 1 ≡ middle = omega arith in
      t_is ∙ (ap (λ (s : Subsection). s.place) (sym (get_or-map (λ (l : Listed). subsection_of l.part) ls middle r d there)) ∙ ap (λ (k : ℕ). (get_or (listed_subsections ls) k d).place) (sym same))

  pub ends_here : t.section ≡ q.section → IsInSection q ls (middle + 1) true
  ends_here same = record { here = λ e d h. ap (λ (p : PdbInternalSectionOffset). p.section) (sym (last_is d)) ∙ same; elsewhere = λ e. absurd cc }

  pub ends_elsewhere : (t.section ≡ q.section → ⊥) → IsInSection q ls (middle + 1) false
  ends_elsewhere other = record { here = λ e. absurd cc; elsewhere = λ e d h same. other (ap (λ (p : PdbInternalSectionOffset). p.section) (last_is d) ∙ same) }
