-- The records of one subsection stand among those of all.
use Rattle.std.proofs.Common.{◌≡◌, ℕ, Bool, true, false, cond, List, [], ◌∷◌, ◌++◌, Option, Some, None, refl, sym, ap, subst, ◌∙◌, arith}
use Rattle.std.specs.Prelude.{◌==◌}
use Rattle.std.proofs.lemmas.Grind.{flat_map-append}
use Rattle.pdb_base.specs.declared.error.Error.{Error}
use Rattle.pdb_base.specs.declared.index.PdbInternalSectionOffset.{PdbInternalSectionOffset}
use Rattle.pdb_base.specs.Left.{Left, ended}
use Rattle.pdb_modules.specs.declared.line.Line.{Line}
use Rattle.pdb_modules.specs.declared.line_info.LineInfo.{LineInfo}
use Rattle.pdb_modules.specs.Lines.{Mark, begins, stands, line_info, distance, lesser, reach_of, records, Subsection, marks, program_marks, program_fault, given, lines_of}
use Rattle.pdb_modules.specs.KeptRows.{all_marks, own_records, AtMost, SameButLast, StandAmong}
use Rattle.pdb_modules.specs.LineOrder.{is_upto, later, last_upto, lines_in, lines_for}
use Rattle.pdb_modules.proofs.Reaching.{reach_closed, lesser_assoc}
use Rattle.pdb_modules.proofs.Faults.{open_marks, fault_of_lines, alone_fault, given_alone}

-- marks behind may be nearer
at_most_lesser : (a b : Option ℕ) → AtMost a (lesser a b)
at_most_lesser None None = refl
at_most_lesser None (Some b) = tt
at_most_lesser (Some a) None = omega arith
at_most_lesser (Some a) (Some b) = omega arith

reach_over : (p : PdbInternalSectionOffset) (ms more : List Mark) → records ms ≡ [] → reach_of p (ms ++ more) ≡ lesser (reach_of p ms) (reach_of p more)
reach_over p [] more e = refl
reach_over p (begins q line ∷ ms) more e = absurd cc
reach_over p (stands q ∷ ms) more e = ap (lesser (distance p q)) (reach_over p ms more e) ∙ sym (lesser_assoc (distance p q) (reach_of p ms) (reach_of p more))

abbrev Before : List Mark → List Mark → Type 0
Before ms more = (mine : List LineInfo) × (records (ms ++ more) ≡ mine ++ records more) × SameButLast (records ms) mine

begins_before : (p : PdbInternalSectionOffset) (line : Line) (ms more : List Mark) (rs : List LineInfo) → records ms ≡ rs → (mine : List LineInfo) → records (ms ++ more) ≡ mine ++ records more → SameButLast rs mine → (mine : List LineInfo) × (line_info p line (reach_of p (ms ++ more)) ∷ records (ms ++ more) ≡ mine ++ records more) × SameButLast (line_info p line (reach_of p ms) ∷ rs) mine
begins_before p line ms more [] e mine is same = (
  line_info p line (reach_of p (ms ++ more)) ∷ [],
  ap (λ (rs : List LineInfo). line_info p line (reach_of p (ms ++ more)) ∷ rs) (is ∙ ap (λ (m : List LineInfo). m ++ records more) same),
  (reach_of p (ms ++ more), refl, subst (AtMost (reach_of p ms)) (sym (reach_over p ms more e)) (at_most_lesser (reach_of p ms) (reach_of p more))),
)
begins_before p line ms more (r ∷ rs) e mine is same = (
  line_info p line (reach_of p ms) ∷ mine,
  ap (λ (o : Option ℕ). line_info p line o ∷ records (ms ++ more)) (reach_closed p ms more r rs e) ∙ ap (λ (rs : List LineInfo). line_info p line (reach_of p ms) ∷ rs) is,
  (mine, refl, same),
)

before_more : (ms more : List Mark) → Before ms more
before_more [] more = ([], refl, refl)
before_more (stands p ∷ ms) more = before_more ms more
before_more (begins p line ∷ ms) more = let b = before_more ms more in begins_before p line ms more (records ms) refl b.0 b.1 b.2

-- the chosen one stands among the subsections
abbrev Among : Subsection → List Subsection → Type 0
Among s ss = (front : List Subsection) × (back : List Subsection) × (ss ≡ front ++ s ∷ back)

later_among : (q : PdbInternalSectionOffset) (t s : Subsection) (ss : List Subsection) (o : Option Subsection) (b : Bool) → ((x : Subsection) → o ≡ Some x → Among x ss) → later o (cond b (Some t) None) ≡ Some s → Among s (t ∷ ss)
later_among q t s ss (Some x) b h e = let a = h x refl in let same : x ≡ s = cc in (t ∷ a.0, a.1, ap (λ (us : List Subsection). t ∷ us) a.2 ∙ ap (λ (x : Subsection). t ∷ (a.0 ++ x ∷ a.1)) same)
later_among q t s ss None true h e = let same : t ≡ s = cc in ([], ss, ap (λ (x : Subsection). x ∷ ss) same)
later_among q t s ss None false h e = absurd cc

chosen_among : (q : PdbInternalSectionOffset) (ss : List Subsection) (s : Subsection) → last_upto q ss ≡ Some s → Among s ss
chosen_among q [] s e = absurd cc
chosen_among q (t ∷ ss) s e = later_among q t s ss (last_upto q ss) (is_upto t.place q) (chosen_among q ss) e

all_items : (ss : List Subsection) → (lines_of ss).fault ≡ None → (lines_of ss).items ≡ records (all_marks ss)
unfolding lines_of
all_items ss e =
    let none : program_fault ss ≡ None = fault_of_lines ss ∙ e in
    ap (λ (f : Option Error). (given (records (program_marks ss)) f).items) none ∙ ap records (open_marks ss none)

one_items : (s : Subsection) → (lines_of (s ∷ [])).fault ≡ None → (lines_of (s ∷ [])).items ≡ own_records s
one_items s e =
    let none : s.fault ≡ None = alone_fault s ∙ e in
    ap (λ (l : Left LineInfo). l.items) (given_alone s) ∙ ap (λ (f : Option Error). (given (own_records s) f).items) none

split_marks : (front back : List Subsection) (s : Subsection) → all_marks (front ++ s ∷ back) ≡ all_marks front ++ (marks s ++ all_marks back)
split_marks front back s = flat_map-append marks front (s ∷ back)

one_among : (ss : List Subsection) (s : Subsection) → Among s ss → (lines_of ss).fault ≡ None → (lines_of (s ∷ [])).fault ≡ None → StandAmong (lines_of (s ∷ [])).items (lines_of ss).items
one_among ss s a all one =
    let rest = marks s ++ all_marks a.1 in
    let first = before_more (all_marks a.0) rest in
    let second = before_more (marks s) (all_marks a.1) in
    record {
      before = first.0;
      mine = second.0;
      behind = records (all_marks a.1);
      stand = all_items ss all ∙ (ap (λ (ss : List Subsection). records (all_marks ss)) a.2 ∙ (ap records (split_marks a.0 a.1 s) ∙ (first.1 ∙ ap (λ (rs : List LineInfo). first.0 ++ rs) second.1)));
      same = subst (λ (rs : List LineInfo). SameButLast rs second.0) (sym (one_items s one)) second.2;
    }

nothing_among : (all : List LineInfo) → StandAmong [] all
nothing_among all = record { before = []; mine = []; behind = all; stand = refl; same = refl }

in_section : (q : PdbInternalSectionOffset) (ss : List Subsection) (s : Subsection) (b : Bool) → Among s ss → (lines_of ss).fault ≡ None → (let left = cond b (lines_of (s ∷ [])) ended in left).fault ≡ None → StandAmong (cond b (lines_of (s ∷ [])) ended).items (lines_of ss).items
in_section q ss s true a all one = one_among ss s a all one
in_section q ss s false a all one = nothing_among (lines_of ss).items

by_choice : (q : PdbInternalSectionOffset) (ss : List Subsection) (o : Option Subsection) → last_upto q ss ≡ o → (lines_of ss).fault ≡ None → (lines_in q o).fault ≡ None → StandAmong (lines_in q o).items (lines_of ss).items
by_choice q ss None e all one = nothing_among (lines_of ss).items
by_choice q ss (Some s) e all one = in_section q ss s (s.place.section == q.section) (chosen_among q ss s e) all one

pub symbols_lines_stand_among : (q : PdbInternalSectionOffset) (ss : List Subsection) → (lines_of ss).fault ≡ None → (lines_for q ss).fault ≡ None → StandAmong (lines_for q ss).items (lines_of ss).items
unfolding lines_for
symbols_lines_stand_among q ss all one = by_choice q ss (last_upto q ss) refl all one
