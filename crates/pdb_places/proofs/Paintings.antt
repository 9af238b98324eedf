-- Spans painted half by half: the first half laid over the second.
use Rattle.std.proofs.Common.{◌≡◌, ℕ, ◌+◌, ◌-◌, Bool, true, false, cond, List, [], ◌∷◌, ◌++◌, length, take, drop, Option, Some, None, refl, sym, ap, subst, ◌∙◌, append_assoc, arith, length-append}
use Rattle.std.specs.Option.{option_or}
use Rattle.std.proofs.lemmas.List.{take-append-drop}
use Rattle.std.proofs.Math.Seq.{take-append_seam, drop-append_seam}
use Rattle.pdb_places.specs.declared.span.Span.{Span}
use Rattle.pdb_places.specs.declared.painted.Cut.{Cut}
use Rattle.pdb_places.specs.Painting.{has, first_with, owner_at, last_owner, IsOver, LaysOn, ArePaintedOf, PaintsOn}

pub first_append : (x : ℕ) (ss ts : List Span) → first_with x (ss ++ ts) ≡ option_or (first_with x ss) (first_with x ts)
first_append x [] ts = refl
first_append x (s ∷ ss) ts = by_test (has x s) (first_append x ss ts)
  where
    by_test : (b : Bool) → first_with x (ss ++ ts) ≡ option_or (first_with x ss) (first_with x ts) → cond b (Some s.owner) (first_with x (ss ++ ts)) ≡ option_or (cond b (Some s.owner) (first_with x ss)) (first_with x ts)
    by_test true e = refl
    by_test false e = e

both_painted : (ss ts : List Span) (fs gs hs : List Cut) → ArePaintedOf ss fs → ArePaintedOf ts gs → IsOver fs gs hs → ArePaintedOf (ss ++ ts) hs
both_painted ss ts fs gs hs p q over = record {
  cuts = record {
    rises = over.rises;
    ended = over.last ∙ (ap (λ (o : Option ℕ). option_or o (last_owner None gs)) p.cuts.ended ∙ q.cuts.ended);
  };
  finds = λ x.
      over.finds x
      ∙ (ap (λ (o : Option ℕ). option_or o (owner_at x None gs)) (p.finds x)
      ∙ (ap (λ (o : Option ℕ). option_or (first_with x ss) o) (q.finds x) ∙ sym (first_append x ss ts)));
  two = let l = over.long in let m = p.two in let n = q.two in omega (arith, length-append ss ts);
}

pub painted_on : (ss : List Span) (half from middle : ℕ) (before first second after : List Cut) → PaintsOn (take half ss) before first → PaintsOn (drop half ss) first second → from ≡ length before → middle ≡ length first
    → LaysOn (take from second) (take (middle - from) (drop from second)) (drop middle second) after → PaintsOn ss before after
painted_on ss half from middle before first second after p q f m laid =
    let f_is = p.painted in
    let g_is = q.painted in
    let whole : second ≡ before ++ (f_is ++ g_is) = q.whole ∙ (ap (λ (l : List Cut). l ++ g_is) p.whole ∙ append_assoc before f_is g_is) in
    let long : length first ≡ length before + length f_is = ap (λ (l : List Cut). length l) p.whole ∙ length-append before f_is in
    let front : take from second ≡ before = ap (take from) whole ∙ (ap (λ (n : ℕ). take n (before ++ (f_is ++ g_is))) f ∙ take-append_seam before (f_is ++ g_is)) in
    let behind : drop from second ≡ f_is ++ g_is = ap (drop from) whole ∙ (ap (λ (n : ℕ). drop n (before ++ (f_is ++ g_is))) f ∙ drop-append_seam before (f_is ++ g_is)) in
    let size : middle - from ≡ length f_is = omega arith in
    let upper : take (middle - from) (drop from second) ≡ f_is = ap (take (middle - from)) behind ∙ (ap (λ (n : ℕ). take n (f_is ++ g_is)) size ∙ take-append_seam f_is g_is) in
    let lower : drop middle second ≡ g_is = ap (drop middle) q.whole ∙ (ap (λ (n : ℕ). drop n (first ++ g_is)) m ∙ drop-append_seam first g_is) in
    let over : IsOver f_is g_is laid.laid = subst (λ (l : List Cut). IsOver f_is l laid.laid) lower (subst (λ (l : List Cut). IsOver l (drop middle second) laid.laid) upper laid.over) in
    record {
      painted = laid.laid;
      whole = laid.whole ∙ ap (λ (l : List Cut). l ++ laid.laid) front;
      are = subst (λ (l : List Span). ArePaintedOf l laid.laid) (take-append-drop half ss) (both_painted (take half ss) (drop half ss) f_is g_is laid.laid p.are q.are over);
    }
