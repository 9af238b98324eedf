-- What is computed as a record's reach is the nearest of the marks that count, and nothing else is.
use Rattle.std.proofs.Common.{◌≡◌, ℕ, zero, suc, ◌-◌, ◌<◌, ◌≤◌, min, Bool, true, false, cond, ◌&&◌, ◌⊎◌, inl, inr, List, [], ◌∷◌, get_or, Option, Some, None, refl, sym, ap, subst, ◌∙◌, arith}
use Rattle.std.specs.Prelude.{◌==◌, nat_le}
use Rattle.std.proofs.lemmas.Bool.{eqb-true, eqb-false, leb-true, leb-false}
use Rattle.pdb_base.specs.declared.index.PdbInternalSectionOffset.{PdbInternalSectionOffset}
use Rattle.pdb_modules.specs.declared.line.Line.{Line}
use Rattle.pdb_modules.specs.declared.line_info.LineInfo.{LineInfo}
use Rattle.pdb_modules.specs.Lines.{Mark, begins, stands, place_of, Begins, Counts, Reaches, distance_to, line_info, AreRecords, distance, lesser, reach_of, records}

abbrev Ahead : PdbInternalSectionOffset → PdbInternalSectionOffset → Type 0
Ahead p q = (q.section ≡ p.section) × (p.offset ≤ q.offset)

abbrev IsDistance : PdbInternalSectionOffset → PdbInternalSectionOffset → Option ℕ → Type 0
IsDistance p q None = Ahead p q → ⊥
IsDistance p q (Some n) = (q.section ≡ p.section) × (p.offset ≤ q.offset) × (n ≡ q.offset - p.offset)

distance_cases : (p q : PdbInternalSectionOffset) (s t : Bool) → (p.section == q.section) ≡ s → nat_le p.offset q.offset ≡ t → IsDistance p q (cond (s && t) (Some (q.offset - p.offset)) None)
distance_cases p q true true e f = (sym (eqb-true p.section q.section e), leb-true p.offset q.offset f, refl)
distance_cases p q true false e f = λ a. let past : q.offset < p.offset = leb-false p.offset q.offset f in absurd (omega arith)
distance_cases p q false t e f = λ a. eqb-false p.section q.section e (sym a.0)

distance_is : (p q : PdbInternalSectionOffset) → IsDistance p q (distance p q)
distance_is p q = distance_cases p q (p.section == q.section) (nat_le p.offset q.offset) refl refl

-- the mark that is next
first_counts : (p : PdbInternalSectionOffset) (m : Mark) (ms : List Mark) → Ahead p (place_of m) → Counts p (m ∷ ms) 0
first_counts p m ms a = record { there = omega arith; open_till = λ k h. absurd (omega arith); section = a.0; forward = a.1 }

first_ahead : (p : PdbInternalSectionOffset) (m : Mark) (ms : List Mark) → Counts p (m ∷ ms) 0 → Ahead p (place_of m)
first_ahead p m ms c = (c.section, c.forward)

-- no mark counts behind one that begins a record
no_later : (p q : PdbInternalSectionOffset) (line : Line) (ms : List Mark) (j : ℕ) → Counts p (begins q line ∷ ms) (suc j) → ⊥
no_later p q line ms j c = c.open_till 0 (omega arith) tt

-- a mark that doesn't is passed over
open_later : (p q : PdbInternalSectionOffset) (ms : List Mark) (j : ℕ) → Counts p ms j → (k : ℕ) → k < suc j → Begins (get_or (stands q ∷ ms) k (stands p)) → ⊥
open_later p q ms j c zero h b = b
open_later p q ms j c (suc k) h b = c.open_till k (omega arith) b

later_counts : (p q : PdbInternalSectionOffset) (ms : List Mark) (j : ℕ) → Counts p ms j → Counts p (stands q ∷ ms) (suc j)
later_counts p q ms j c = record { there = let h = c.there in omega arith; open_till = open_later p q ms j c; section = c.section; forward = c.forward }

counted_before : (p q : PdbInternalSectionOffset) (ms : List Mark) (j : ℕ) → Counts p (stands q ∷ ms) (suc j) → Counts p ms j
counted_before p q ms j c = record { there = let h = c.there in omega arith; open_till = λ k h b. c.open_till (suc k) (omega arith) b; section = c.section; forward = c.forward }

-- what holds of the next mark, and of those behind it
at_each : (p q : PdbInternalSectionOffset) (ms : List Mark) (P : ℕ → Type 0) → (Ahead p q → P 0) → ((j : ℕ) → Counts p ms j → P (suc j)) → (j : ℕ) → Counts p (stands q ∷ ms) j → P j
at_each p q ms P here there zero c = here (first_ahead p (stands q) ms c)
at_each p q ms P here there (suc j) c = there j (counted_before p q ms j c)

min_is : (a b : ℕ) → (min a b ≡ a) ⊎ (min a b ≡ b)
min_is a b = elim (min_cases a b) [ inl h ↦ inl (omega arith) | inr h ↦ inr (omega arith) ]
  where
    min_cases : (a b : ℕ) → (a ≤ b) ⊎ (b ≤ a)
    min_cases zero b = inl (omega arith)
    min_cases (suc a) zero = inr (omega arith)
    min_cases (suc a) (suc b) = elim (min_cases a b) [ inl h ↦ inl (omega arith) | inr h ↦ inr (omega arith) ]

abbrev IsReached : PdbInternalSectionOffset → List Mark → ℕ → Type 0
IsReached p ms n = (j : ℕ) × Counts p ms j × (n ≡ distance_to p ms j)

reached_here : (p q : PdbInternalSectionOffset) (ms : List Mark) (a : ℕ) → IsDistance p q (Some a) → IsReached p (stands q ∷ ms) a
reached_here p q ms a d = (0, first_counts p (stands q) ms (d.0, d.1), d.2)

reached_later : (p q : PdbInternalSectionOffset) (ms : List Mark) (b : ℕ) → IsReached p ms b → IsReached p (stands q ∷ ms) b
reached_later p q ms b r = (suc r.0, later_counts p q ms r.0 r.1, r.2)

either_reached : (p q : PdbInternalSectionOffset) (ms : List Mark) (a b n : ℕ) → (n ≡ a) ⊎ (n ≡ b) → IsDistance p q (Some a) → IsReached p ms b → IsReached p (stands q ∷ ms) n
either_reached p q ms a b n (inl e) d r = subst (IsReached p (stands q ∷ ms)) (sym e) (reached_here p q ms a d)
either_reached p q ms a b n (inr e) d r = subst (IsReached p (stands q ∷ ms)) (sym e) (reached_later p q ms b r)

reaches_over : (p q : PdbInternalSectionOffset) (ms : List Mark) (d r : Option ℕ) → IsDistance p q d → Reaches p ms r → Reaches p (stands q ∷ ms) (lesser d r)
reaches_over p q ms None None d r = at_each p q ms (λ j. ⊥) d r
reaches_over p q ms None (Some b) d r = (reached_later p q ms b r.0, at_each p q ms (λ j. b ≤ distance_to p (stands q ∷ ms) j) (λ a. absurd (d a)) r.1)
reaches_over p q ms (Some a) None d r = (reached_here p q ms a d, at_each p q ms (λ j. a ≤ distance_to p (stands q ∷ ms) j) (λ h. let e = d.2 in omega arith) (λ j c. absurd (r j c)))
reaches_over p q ms (Some a) (Some b) d r = (
  either_reached p q ms a b (min a b) (min_is a b) d r.0,
  at_each p q ms (λ j. min a b ≤ distance_to p (stands q ∷ ms) j) (λ h. let e = d.2 in omega arith) (λ j c. let e = r.1 j c in omega arith),
)

reaches_to : (p q : PdbInternalSectionOffset) (line : Line) (ms : List Mark) (d : Option ℕ) → IsDistance p q d → Reaches p (begins q line ∷ ms) d
reaches_to p q line ms None d = none
  where
    none : (j : ℕ) → Counts p (begins q line ∷ ms) j → ⊥
    none zero c = d (first_ahead p (begins q line) ms c)
    none (suc j) c = no_later p q line ms j c
reaches_to p q line ms (Some a) d = ((0, first_counts p (begins q line) ms (d.0, d.1), d.2), least)
  where
    least : (j : ℕ) → Counts p (begins q line ∷ ms) j → a ≤ distance_to p (begins q line ∷ ms) j
    least zero c = let e = d.2 in omega arith
    least (suc j) c = absurd (no_later p q line ms j c)

pub reaches : (p : PdbInternalSectionOffset) (ms : List Mark) → Reaches p ms (reach_of p ms)
reaches p [] = λ j c. let h = c.there in absurd (omega arith)
reaches p (begins q line ∷ ms) = reaches_to p q line ms (distance p q) (distance_is p q)
reaches p (stands q ∷ ms) = reaches_over p q ms (distance p q) (reach_of p ms) (distance_is p q) (reaches p ms)

-- nothing else is
same_reach : (p : PdbInternalSectionOffset) (ms : List Mark) (a b : Option ℕ) → Reaches p ms a → Reaches p ms b → a ≡ b
same_reach p ms None None r s = refl
same_reach p ms None (Some b) r s = absurd (r s.0.0 s.0.1)
same_reach p ms (Some a) None r s = absurd (s r.0.0 r.0.1)
same_reach p ms (Some a) (Some b) r s =
    let below : a ≤ b = let le = r.1 s.0.0 s.0.1 in let e = s.0.2 in omega arith in
    let above : b ≤ a = let le = s.1 r.0.0 r.0.1 in let e = r.0.2 in omega arith in
    let same : a ≡ b = omega arith in
    ap Some same

pub only_reach : (p : PdbInternalSectionOffset) (ms : List Mark) (o : Option ℕ) → Reaches p ms o → o ≡ reach_of p ms
only_reach p ms o r = same_reach p ms o (reach_of p ms) r (reaches p ms)

-- the records that are computed are those of the definition, and nothing else is
pub are_records : (ms : List Mark) → AreRecords ms (records ms)
are_records [] = refl
are_records (stands p ∷ ms) = are_records ms
are_records (begins p line ∷ ms) = (reach_of p ms, records ms, refl, reaches p ms, are_records ms)

pub only_records : (ms : List Mark) (rs : List LineInfo) → AreRecords ms rs → rs ≡ records ms
only_records [] rs e = e
only_records (stands p ∷ ms) rs e = only_records ms rs e
only_records (begins p line ∷ ms) rs e =
    e.2 ∙ (ap (λ (o : Option ℕ). line_info p line o ∷ e.1) (only_reach p ms e.0 e.3) ∙ ap (λ (others : List LineInfo). line_info p line (reach_of p ms) ∷ others) (only_records ms e.1 e.4))
