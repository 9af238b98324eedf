-- Ranges of code as spans of the places of all sections.
use Rattle.std.proofs.Common.{◌≡◌, ℕ, ◌+◌, ◌<◌, ◌^◌, ◌&&◌, Bool, true, false, cond, List, [], ◌∷◌, ◌++◌, length, get_or, take, Option, Some, None, refl, sym, ap, ◌∙◌, arith, length-append}
use Rattle.std.specs.Prelude.{nat_le, nat_lt}
use Rattle.std.specs.Option.{option_or}
use Rattle.std.proofs.lemmas.Bool.{leb-true, le-leb, ltb-true, lt-ltb}
use Rattle.std.proofs.lemmas.List.{take_more}
use Rattle.pdb.specs.PdbInternalSectionOffset.{PdbInternalSectionOffset}
use Rattle.pdb.specs.LineOrder.{order_of}
use Rattle.pdb_places.specs.declared.range.CodeRange.{CodeRange}
use Rattle.pdb_places.specs.declared.span.Span.{Span}
use Rattle.pdb_places.specs.declared.painted.Cut.{Cut}
use Rattle.pdb_places.specs.RangeOrder.{start_of, end_of}
use Rattle.pdb_places.specs.Covering.{covers, first_covering}
use Rattle.pdb_places.specs.Painting.{has, ArePaintedOf}
use Rattle.pdb_places.specs.PaintedRanges.{AreSpansOf, AreCutsOf}
use Rattle.pdb_places.proofs.Paintings.{first_append}
use Rattle.pdb_places.proofs.Coverings.{is_covered, covered_is, between, covers_between}

both_or_neither : (a b : Bool) → (a ≡ true → b ≡ true) → (b ≡ true → a ≡ true) → a ≡ b
both_or_neither true b f g = sym (f refl)
both_or_neither false true f g = g refl
both_or_neither false false f g = refl

two_tests : (a b : Bool) → a && b ≡ true → (a ≡ true) × (b ≡ true)
two_tests true true e = (refl, refl)
two_tests true false e = absurd cc
two_tests false b e = absurd cc

tests_two : (a b : Bool) → a ≡ true → b ≡ true → a && b ≡ true
tests_two true true e f = refl
tests_two true false e f = absurd cc
tests_two false b e f = absurd cc

-- a span of a range has a place where the range covers it
span_covers : (q : PdbInternalSectionOffset) (r : CodeRange) (s : Span) → q.offset < 2 ^ 32 → s.start ≡ start_of r → s.end ≡ end_of r → has (order_of q) s ≡ covers q r
span_covers q r s fits start end =
    both_or_neither (has (order_of q) s) (covers q r)
    (λ h. let t = two_tests (nat_le s.start (order_of q)) (nat_lt (order_of q) s.end) h in
    let from = leb-true s.start (order_of q) t.0 in
    let before = ltb-true (order_of q) s.end t.1 in
    covered_is q r (between q r fits (omega arith) (omega arith)))
    (λ c. let b = covers_between q r fits (is_covered q r c) in
    let from = b.0 in let before = b.1 in
    tests_two (nat_le s.start (order_of q)) (nat_lt (order_of q) s.end) (le-leb s.start (order_of q) (omega arith)) (lt-ltb (order_of q) s.end (omega arith)))

-- ---- one more

range_push : (q : PdbInternalSectionOffset) (rs : List CodeRange) (r : CodeRange) → first_covering q (rs ++ r ∷ []) ≡ option_or (first_covering q rs) (cond (covers q r) (Some r.payload) None)
range_push q [] r = refl
range_push q (t ∷ rs) r = by_test (covers q t) (range_push q rs r)
  where
    by_test : (b : Bool) → first_covering q (rs ++ r ∷ []) ≡ option_or (first_covering q rs) (cond (covers q r) (Some r.payload) None)
        → cond b (Some t.payload) (first_covering q (rs ++ r ∷ [])) ≡ option_or (cond b (Some t.payload) (first_covering q rs)) (cond (covers q r) (Some r.payload) None)
    by_test true e = refl
    by_test false e = e

pub no_spans : AreSpansOf [] []
no_spans = record { finds = λ q f. refl; as_many = refl }

pub more_spans : (rs : List CodeRange) (i : ℕ) (ss : List Span) (r : CodeRange) (s : Span) → AreSpansOf (take i rs) ss → i < length rs → r ≡ get_or rs i r → s.start ≡ start_of r → s.end ≡ end_of r → s.owner ≡ r.payload
    → AreSpansOf (take (i + 1) rs) (ss ++ s ∷ [])
more_spans rs i ss r s are there is start end owner =
    let taken : take (i + 1) rs ≡ take i rs ++ r ∷ [] = take_more rs i r there ∙ ap (λ (d : CodeRange). take i rs ++ d ∷ []) (sym is) in
    record {
      finds = λ q f.
          first_append (order_of q) ss (s ∷ [])
          ∙ (ap (λ (o : Option ℕ). option_or o (cond (has (order_of q) s) (Some s.owner) None)) (are.finds q f)
          ∙ (ap (λ (b : Bool). option_or (first_covering q (take i rs)) (cond b (Some s.owner) None)) (span_covers q r s f start end)
          ∙ (ap (λ (n : ℕ). option_or (first_covering q (take i rs)) (cond (covers q r) (Some n) None)) owner
          ∙ (sym (range_push q (take i rs) r)
          ∙ ap (first_covering q) (sym taken)))));
      as_many = let n = are.as_many in let l : length (take (i + 1) rs) ≡ length (take i rs ++ r ∷ []) = ap (λ (l : List CodeRange). length l) taken in omega (arith, l, length-append ss (s ∷ []), length-append (take i rs) (r ∷ []));
    }

pub cuts_of_spans : (rs : List CodeRange) (ss : List Span) (cs : List Cut) → AreSpansOf rs ss → ArePaintedOf ss cs → AreCutsOf rs cs
cuts_of_spans rs ss cs are painted = record {
  cuts = painted.cuts;
  finds = λ q f. painted.finds (order_of q) ∙ are.finds q f;
  two = let n = are.as_many in let m = painted.two in omega arith;
}
