-- Where a fault ends the marks of subsections.
use Rattle.std.proofs.Common.{◌≡◌, ℕ, ◌-◌, ◌≤◌, List, [], ◌∷◌, ◌++◌, length, take, Option, Some, None, refl, sym, ap, ◌∙◌, arith, append_assoc}
use Rattle.std.proofs.lemmas.List.{append-nil, take_all}
use Rattle.pdb_base.specs.declared.error.Error.{Error}
use Rattle.pdb_base.specs.declared.index.PdbInternalSectionOffset.{PdbInternalSectionOffset}
use Rattle.pdb_base.specs.Left.{Left}
use Rattle.pdb_modules.specs.declared.line.Line.{Line}
use Rattle.pdb_modules.specs.declared.line_info.LineInfo.{LineInfo}
use Rattle.pdb_modules.specs.Lines.{Mark, begins, stands, line_info, reach_of, records, Subsection, marks, unless_fault, program_marks, first_of, program_fault, all_but_last, given, lines_of}
use Rattle.pdb_modules.specs.KeptRows.{all_marks, own_records, given_count}
use Rattle.pdb_modules.proofs.Reaching.{reach_closed}

-- ---- the first fault

first_none : (f : Option Error) → first_of f None ≡ f
first_none None = refl
first_none (Some e) = refl

first_assoc : (f g h : Option Error) → first_of f (first_of g h) ≡ first_of (first_of f g) h
first_assoc None g h = refl
first_assoc (Some e) g h = refl

pub fault_more : (ss : List Subsection) (s : Subsection) → program_fault (ss ++ s ∷ []) ≡ first_of (program_fault ss) s.fault
fault_more [] s = first_none s.fault
fault_more (x ∷ ss) s = ap (first_of x.fault) (fault_more ss s) ∙ first_assoc x.fault (program_fault ss) s.fault

-- ---- the marks up to it

unless_nil : (f : Option Error) → unless_fault f [] ≡ (let none : List Mark = [] in none)
unless_nil None = refl
unless_nil (Some e) = refl

unless_open : (f other : Option Error) (xs ys : List Mark) → first_of f other ≡ None → (other ≡ None → xs ≡ ys) → unless_fault f xs ≡ ys
unless_open None other xs ys e same = same e
unless_open (Some x) other xs ys e same = absurd cc

unless_closed : (f other : Option Error) (e : Error) (xs ys : List Mark) → first_of f other ≡ Some e → (other ≡ Some e → xs ≡ ys) → unless_fault f xs ≡ unless_fault f ys
unless_closed None other e xs ys h same = same h
unless_closed (Some x) other e xs ys h same = refl

-- behind no fault all marks count
pub open_marks : (ss : List Subsection) → program_fault ss ≡ None → program_marks ss ≡ all_marks ss
open_marks [] e = refl
open_marks (x ∷ ss) e = ap (λ (ms : List Mark). marks x ++ ms) (unless_open x.fault (program_fault ss) (program_marks ss) (all_marks ss) e (open_marks ss))

pub open_marks_more : (ss : List Subsection) (s : Subsection) → program_fault ss ≡ None → program_marks (ss ++ s ∷ []) ≡ all_marks (ss ++ s ∷ [])
open_marks_more [] s e = ap (λ (ms : List Mark). marks s ++ ms) (unless_nil s.fault)
open_marks_more (x ∷ ss) s e = ap (λ (ms : List Mark). marks x ++ ms) (unless_open x.fault (program_fault ss) (program_marks (ss ++ s ∷ [])) (all_marks (ss ++ s ∷ [])) e (open_marks_more ss s))

-- behind a fault none does
pub closed_marks_more : (ss : List Subsection) (s : Subsection) (e : Error) → program_fault ss ≡ Some e → program_marks (ss ++ s ∷ []) ≡ program_marks ss
closed_marks_more [] s e h = absurd cc
closed_marks_more (x ∷ ss) s e h = ap (λ (ms : List Mark). marks x ++ ms) (unless_closed x.fault (program_fault ss) e (program_marks (ss ++ s ∷ [])) (program_marks ss) h (closed_marks_more ss s e))

-- those up to it come first
abbrev BeginsWith : List Mark → List Mark → Type 0
BeginsWith xs ys = (more : List Mark) × (xs ≡ ys ++ more)

split_at_fault : (f : Option Error) (own all some : List Mark) → BeginsWith all some → BeginsWith (own ++ all) (own ++ unless_fault f some)
split_at_fault None own all some b = (b.0, ap (λ (ms : List Mark). own ++ ms) b.1 ∙ sym (append_assoc own some b.0))
split_at_fault (Some e) own all some b = (all, ap (λ (ms : List Mark). ms ++ all) (sym (append-nil own)))

all_begin : (ss : List Subsection) → BeginsWith (all_marks ss) (program_marks ss)
all_begin [] = ([], refl)
all_begin (x ∷ ss) = split_at_fault x.fault (marks x) (all_marks ss) (program_marks ss) (all_begin ss)

-- ---- what is given before a fault: records that no further mark changes

last_gone : (r : LineInfo) (rs : List LineInfo) → all_but_last (r ∷ rs) ≡ take (length rs) (r ∷ rs)
last_gone r [] = refl
last_gone r (s ∷ rs) = ap (λ (rs : List LineInfo). r ∷ rs) (last_gone s rs)

but_last : (rs : List LineInfo) → all_but_last rs ≡ take (length rs - 1) rs
but_last [] = refl
but_last (r ∷ rs) = let same : length rs ≡ length (r ∷ rs) - 1 = omega arith in last_gone r rs ∙ ap (λ (n : ℕ). take n (r ∷ rs)) same

-- a record that another one follows
closed_record : (p : PdbInternalSectionOffset) (line : Line) (ms more : List Mark) (rs rest : List LineInfo) → records ms ≡ rs → take (length rs - 1) rest ≡ take (length rs - 1) rs → take (length rs) (line_info p line (reach_of p (ms ++ more)) ∷ rest) ≡ take (length rs) (line_info p line (reach_of p ms) ∷ rs)
closed_record p line ms more [] rest e h = refl
closed_record p line ms more (r ∷ rs) rest e h =
    let n : length (r ∷ rs) - 1 ≡ length rs = omega arith in
    ap (λ (o : Option ℕ). line_info p line o ∷ take (length rs) rest) (reach_closed p ms more r rs e)
    ∙ ap (λ (rs : List LineInfo). line_info p line (reach_of p ms) ∷ rs) (ap (λ (n : ℕ). take n rest) (sym n) ∙ (h ∙ ap (λ (n : ℕ). take n (r ∷ rs)) n))

settled : (ms more : List Mark) → take (length (records ms) - 1) (records (ms ++ more)) ≡ take (length (records ms) - 1) (records ms)
settled [] more = refl
settled (stands p ∷ ms) more = settled ms more
settled (begins p line ∷ ms) more =
    let n : length (records ms) ≡ length (records (begins p line ∷ ms)) - 1 = omega arith in
    ap (λ (n : ℕ). take n (line_info p line (reach_of p (ms ++ more)) ∷ records (ms ++ more))) (sym n)
    ∙ (closed_record p line ms more (records ms) (records (ms ++ more)) refl (settled ms more)
    ∙ ap (λ (n : ℕ). take n (line_info p line (reach_of p ms) ∷ records ms)) n)

given_with : (ss : List Subsection) (f : Option Error) → program_fault ss ≡ f → take (given_count (length (records (program_marks ss))) f) (records (all_marks ss)) ≡ (given (records (program_marks ss)) f).items
given_with ss None e =
    ap (λ (ms : List Mark). take (length (records (program_marks ss))) (records ms)) (sym (open_marks ss e))
    ∙ take_all (length (records (program_marks ss))) (records (program_marks ss)) (omega arith)
given_with ss (Some e) h =
    let b = all_begin ss in
    ap (λ (ms : List Mark). take (length (records (program_marks ss)) - 1) (records ms)) b.1
    ∙ (settled (program_marks ss) b.0 ∙ sym (but_last (records (program_marks ss))))

-- so many of the records over all marks
pub given_items : (ss : List Subsection) → take (given_count (length (records (program_marks ss))) (program_fault ss)) (records (all_marks ss)) ≡ (lines_of ss).items
unfolding lines_of
given_items ss = given_with ss (program_fault ss) refl

given_fault : (rs : List LineInfo) (f : Option Error) → (given rs f).fault ≡ f
given_fault rs None = refl
given_fault rs (Some e) = refl

pub fault_of_lines : (ss : List Subsection) → program_fault ss ≡ (lines_of ss).fault
unfolding lines_of
fault_of_lines ss = sym (given_fault (records (program_marks ss)) (program_fault ss))

-- ---- a subsection that is the only one

pub given_alone : (s : Subsection) → lines_of (s ∷ []) ≡ given (own_records s) s.fault
unfolding lines_of
given_alone s =
    ap (λ (ms : List Mark). given (records (marks s ++ ms)) (first_of s.fault None)) (unless_nil s.fault)
    ∙ (ap (λ (ms : List Mark). given (records ms) (first_of s.fault None)) (append-nil (marks s)) ∙ ap (given (own_records s)) (first_none s.fault))

given_take : (rs : List LineInfo) (f : Option Error) → take (given_count (length rs) f) rs ≡ (given rs f).items
given_take rs None = take_all (length rs) rs (omega arith)
given_take rs (Some e) = sym (but_last rs)

pub alone_items : (s : Subsection) → take (given_count (length (own_records s)) s.fault) (own_records s) ≡ (lines_of (s ∷ [])).items
alone_items s = given_take (own_records s) s.fault ∙ ap (λ (l : Left LineInfo). l.items) (sym (given_alone s))

pub alone_fault : (s : Subsection) → s.fault ≡ (lines_of (s ∷ [])).fault
alone_fault s = sym (given_fault (own_records s) s.fault) ∙ ap (λ (l : Left LineInfo). l.fault) (sym (given_alone s))

pub count_below : (n : ℕ) (f : Option Error) → given_count n f ≤ n
count_below n None = omega arith
count_below n (Some e) = omega arith

longer : (ms more : List Mark) → length (records ms) ≤ length (records (ms ++ more))
longer [] more = omega arith
longer (stands p ∷ ms) more = longer ms more
longer (begins p line ∷ ms) more = let h = longer ms more in omega arith

pub count_inside : (ss : List Subsection) → given_count (length (records (program_marks ss))) (program_fault ss) ≤ length (records (all_marks ss))
count_inside ss =
    let b = all_begin ss in
    omega (arith, count_below (length (records (program_marks ss))) (program_fault ss), longer (program_marks ss) b.0, ap (λ (ms : List Mark). length (records ms)) b.1)
