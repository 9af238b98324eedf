-- Which subsection is chosen for a place.
use Rattle.std.proofs.Common.{◌≡◌, ℕ, zero, suc, ◌-◌, ◌<◌, ◌≤◌, Bool, true, false, cond, List, [], ◌∷◌, length, get_or, Option, Some, None, refl, sym, ap, ◌∙◌, arith}
use Rattle.std.specs.Prelude.{not}
use Rattle.std.proofs.lemmas.Bool.{eq-eqb, ne_eqb}
use Rattle.std.proofs.lemmas.List.{get_or_default, length-map}
use Rattle.pdb_modules.specs.declared.line_program.Listed.{Listed}
use Rattle.pdb_modules.specs.KeptRows.{subsection_of}
use Rattle.pdb_modules.specs.LineProgram.{listed_subsections}
use Rattle.pdb_base.specs.declared.index.PdbInternalSectionOffset.{PdbInternalSectionOffset}
use Rattle.pdb_base.specs.Left.{Left, ended}
use Rattle.pdb_modules.specs.declared.line_info.LineInfo.{LineInfo}
use Rattle.pdb_modules.specs.Lines.{Subsection, lines_of}
use Rattle.pdb_modules.specs.LineOrder.{is_upto, IsLastUpto, later, last_upto, lines_in, lines_for, part_in, part_for}

upto_none : (q : PdbInternalSectionOffset) (ss : List Subsection) → ((k : ℕ) (d : Subsection) → k < length ss → is_upto (get_or ss k d).place q ≡ false) → last_upto q ss ≡ None
upto_none q [] h = refl
upto_none q (s ∷ ss) h =
    ap (λ (o : Option Subsection). later o (cond (is_upto s.place q) (Some s) None)) (upto_none q ss (λ k d l. h (suc k) d (omega arith)))
    ∙ ap (λ (b : Bool). cond b (Some s) None) (h 0 s (omega arith))

upto_some : (q : PdbInternalSectionOffset) (ss : List Subsection) (k : ℕ) (d : Subsection) → k < length ss → is_upto (get_or ss k d).place q ≡ true → ((j : ℕ) (e : Subsection) → k < j → j < length ss → is_upto (get_or ss j e).place q ≡ false) → last_upto q ss ≡ Some (get_or ss k d)
upto_some q [] k d l h above = absurd (omega arith)
upto_some q (s ∷ ss) zero d l h above =
    ap (λ (o : Option Subsection). later o (cond (is_upto s.place q) (Some s) None)) (upto_none q ss (λ k e m. above (suc k) e (omega arith) (omega arith)))
    ∙ ap (λ (b : Bool). cond b (Some s) None) h
upto_some q (s ∷ ss) (suc k) d l h above =
    ap (λ (o : Option Subsection). later o (cond (is_upto s.place q) (Some s) None)) (upto_some q ss k d (omega arith) h (λ j e m n. above (suc j) e (omega arith) (omega arith)))

module _ (q : PdbInternalSectionOffset) (ss : List Subsection) (n : ℕ)
    (below : (k : ℕ) (d : Subsection) → k < n → is_upto (get_or ss k d).place q ≡ true)
    (above : (k : ℕ) (d : Subsection) → n ≤ k → k < length ss → is_upto (get_or ss k d).place q ≡ false) where
  -- none
  pub for_none : n ≡ 0 → lines_for q ss ≡ ended
  unfolding lines_for
  for_none e = ap (lines_in q) (upto_none q ss (λ k d l. above k d (omega arith) l))

  pub part_of_none : n ≡ 0 → part_for q ss ≡ []
  unfolding part_for
  part_of_none e = ap (part_in q) (upto_none q ss (λ k d l. above k d (omega arith) l))

  module _ (k : ℕ) (d : Subsection) (is : k ≡ n - 1) (some : 0 < n) (inside : n ≤ length ss) where
    chosen : last_upto q ss ≡ Some (get_or ss k d)
    chosen = upto_some q ss k d (omega arith) (below k d (omega arith)) (λ j e m l. above j e (omega arith) l)

    pub part_of_other : ((get_or ss k d).place.section ≡ q.section → ⊥) → part_for q ss ≡ []
    unfolding part_for
    part_of_other other = ap (part_in q) chosen ∙ ap (λ (b : Bool). cond b (get_or ss k d).bytes []) (ne_eqb (get_or ss k d).place.section q.section other)

    pub part_of_one : (get_or ss k d).place.section ≡ q.section → part_for q ss ≡ (get_or ss k d).bytes
    unfolding part_for
    part_of_one same = ap (part_in q) chosen ∙ ap (λ (b : Bool). cond b (get_or ss k d).bytes []) (eq-eqb (get_or ss k d).place.section q.section same)

    -- one in another section
    pub for_other : ((get_or ss k d).place.section ≡ q.section → ⊥) → lines_for q ss ≡ ended
    unfolding lines_for
    for_other other =
        ap (lines_in q) chosen ∙ ap (λ (b : Bool). cond b (lines_of (get_or ss k d ∷ [])) ended) (ne_eqb (get_or ss k d).place.section q.section other)

    -- one in the section
    pub for_one : (get_or ss k d).place.section ≡ q.section → lines_for q ss ≡ lines_of (get_or ss k d ∷ [])
    unfolding lines_for
    for_one same =
        ap (lines_in q) chosen ∙ ap (λ (b : Bool). cond b (lines_of (get_or ss k d ∷ [])) ended) (eq-eqb (get_or ss k d).place.section q.section same)

-- what is computed is the last one at or before the place
pub is_last : (q : PdbInternalSectionOffset) (ss : List Subsection) (k : ℕ) (s : Subsection) → IsLastUpto q ss k s → last_upto q ss ≡ Some s
is_last q ss k s l =
    upto_some q ss k s l.there (ap (λ (s : Subsection). is_upto s.place q) l.is ∙ l.upto) (λ j e m n. ap (λ (s : Subsection). is_upto s.place q) (get_or_default ss j e s n) ∙ l.last j m n)
    ∙ ap Some l.is

-- none is chosen where all stand behind the place
none_before : (b : Bool) (s : Subsection) → cond b (Some s) None ≡ None → b ≡ false
none_before true s e = absurd cc
none_before false s e = refl

pub all_behind : (q : PdbInternalSectionOffset) (ss : List Subsection) → last_upto q ss ≡ None → (k : ℕ) (d : Subsection) → k < length ss → is_upto (get_or ss k d).place q ≡ false
all_behind q [] e k d h = absurd (omega arith)
all_behind q (x ∷ ss) e k d h = by_rest (last_upto q ss) refl e k h (λ f k h. all_behind q ss f k d h)
  where
    Behind : Type 0
    Behind = last_upto q ss ≡ None → (k : ℕ) → k < length ss → is_upto (get_or ss k d).place q ≡ false

    by_rest : (o : Option Subsection) → last_upto q ss ≡ o → later o (cond (is_upto x.place q) (Some x) None) ≡ None → (k : ℕ) → k < length (x ∷ ss) → Behind → is_upto (get_or (x ∷ ss) k d).place q ≡ false
    by_rest (Some t) f e k h rest = absurd cc
    by_rest None f e zero h rest = none_before (is_upto x.place q) x e
    by_rest None f e (suc k) h rest = rest f k (omega arith)

-- and the one that is chosen is the last one at or before it
abbrev Chosen : PdbInternalSectionOffset → List Subsection → Subsection → Type 0
Chosen q ss s = (k : ℕ) × IsLastUpto q ss k s

one_further : (q : PdbInternalSectionOffset) (x : Subsection) (ss : List Subsection) (k : ℕ) (s : Subsection) → IsLastUpto q ss k s → IsLastUpto q (x ∷ ss) (suc k) s
one_further q x ss k s l = record { there = let t = l.there in omega arith; is = l.is; upto = l.upto; last = last }
  where
    last : (j : ℕ) → suc k < j → j < length (x ∷ ss) → is_upto (get_or (x ∷ ss) j s).place q ≡ false
    last zero h i = absurd (omega arith)
    last (suc j) h i = l.last j (omega arith) (omega arith)

first_alone : (q : PdbInternalSectionOffset) (s : Subsection) (ss : List Subsection) → is_upto s.place q ≡ true → last_upto q ss ≡ None → IsLastUpto q (s ∷ ss) 0 s
first_alone q s ss upto none = record { there = omega arith; is = refl; upto = upto; last = last }
  where
    last : (j : ℕ) → 0 < j → j < length (s ∷ ss) → is_upto (get_or (s ∷ ss) j s).place q ≡ false
    last zero h i = absurd (omega arith)
    last (suc j) h i = all_behind q ss none j s (omega arith)

pub last_found : (q : PdbInternalSectionOffset) (ss : List Subsection) (s : Subsection) → last_upto q ss ≡ Some s → Chosen q ss s
last_found q [] s e = absurd cc
last_found q (x ∷ ss) s e = by_rest (last_upto q ss) refl e (λ f. last_found q ss s f)
  where
    here : (b : Bool) → is_upto x.place q ≡ b → last_upto q ss ≡ None → cond b (Some x) None ≡ Some s → Chosen q (x ∷ ss) s
    here true u none e = let same : x ≡ s = cc in (0, rw (← same) (first_alone q x ss u none))
    here false u none e = absurd cc

    by_rest : (o : Option Subsection) → last_upto q ss ≡ o → later o (cond (is_upto x.place q) (Some x) None) ≡ Some s → (last_upto q ss ≡ Some s → Chosen q ss s) → Chosen q (x ∷ ss) s
    by_rest (Some t) f e rest = let same : t ≡ s = cc in let found = rest (f ∙ ap Some same) in (suc found.0, one_further q x ss found.0 s found.1)
    by_rest None f e rest = here (is_upto x.place q) refl f e

-- ---- the search's answer, over the list that it searched

pub not_so : (b : Bool) → not b ≡ true → b ≡ false
not_so true e = absurd cc
not_so false e = refl

pub so : (b : Bool) → not b ≡ false → b ≡ true
so true e = refl
so false e = absurd cc

abbrev nowhere : Subsection
nowhere = record { place = record { offset = 0; section = 0 }; code_size = 0; bytes = []; entries = []; fault = None }

module _ (q : PdbInternalSectionOffset) (ls : List Listed) (ss : List Subsection) (n : ℕ) (left : Left LineInfo)
    (seen : listed_subsections ls ≡ ss)
    (inside : n ≤ length ls)
    (below : (k : ℕ) (d : Subsection) → k < n → is_upto (get_or (listed_subsections ls) k d).place q ≡ true)
    (above : (k : ℕ) (d : Subsection) → n ≤ k → k < length ls → is_upto (get_or (listed_subsections ls) k d).place q ≡ false) where
  counted : length (listed_subsections ls) ≡ length ls
  counted = length-map ls (λ (l : Listed). subsection_of l.part)

  above_all : (k : ℕ) (d : Subsection) → n ≤ k → k < length (listed_subsections ls) → is_upto (get_or (listed_subsections ls) k d).place q ≡ false
  above_all k d h l = above k d h (let c = counted in omega arith)

  pub nothing_before : n ≡ 0 → left ≡ ended → left ≡ lines_for q ss
  nothing_before e is = is ∙ (sym (for_none q (listed_subsections ls) n below above_all e) ∙ ap (lines_for q) seen)

  pub no_part : (b : List ℕ) → n ≡ 0 → b ≡ [] → b ≡ part_for q ss
  no_part b e is = is ∙ (sym (part_of_none q (listed_subsections ls) n below above_all e) ∙ ap (part_for q) seen)

  module _ (k : ℕ) (is_last : k ≡ n - 1) (some : 0 < n) where
    room : n ≤ length (listed_subsections ls)
    room = let c = counted in omega arith

    abbrev s : Subsection
    s = nowhere

    pub another_section : ((d : Subsection) → (get_or (listed_subsections ls) k d).place.section ≡ q.section → ⊥) → left ≡ ended → left ≡ lines_for q ss
    another_section other is =
        is ∙ (sym (for_other q (listed_subsections ls) n below above_all k s is_last some room (other s)) ∙ ap (lines_for q) seen)

    pub same_section : ((d : Subsection) → (get_or (listed_subsections ls) k d).place.section ≡ q.section) → ((d : Subsection) → left ≡ lines_of (get_or ss k d ∷ [])) → left ≡ lines_for q ss
    same_section e is =
        is s ∙ (ap (λ (ss : List Subsection). lines_of (get_or ss k s ∷ [])) (sym seen)
        ∙ (sym (for_one q (listed_subsections ls) n below above_all k s is_last some room (e s)) ∙ ap (lines_for q) seen))

    pub part_elsewhere : (b : List ℕ) → ((d : Subsection) → (get_or (listed_subsections ls) k d).place.section ≡ q.section → ⊥) → b ≡ [] → b ≡ part_for q ss
    part_elsewhere b other is =
        is ∙ (sym (part_of_other q (listed_subsections ls) n below above_all k s is_last some room (other s)) ∙ ap (part_for q) seen)

    pub part_here : (b : List ℕ) → ((d : Subsection) → (get_or (listed_subsections ls) k d).place.section ≡ q.section) → ((d : Subsection) → b ≡ (get_or ss k d).bytes) → b ≡ part_for q ss
    part_here b e is =
        is s ∙ (ap (λ (ss : List Subsection). (get_or ss k s).bytes) (sym seen)
        ∙ (sym (part_of_one q (listed_subsections ls) n below above_all k s is_last some room (e s)) ∙ ap (part_for q) seen))
