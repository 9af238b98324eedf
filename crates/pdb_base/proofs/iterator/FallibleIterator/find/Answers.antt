use Rattle.std.proofs.Common.{◌≡◌, List, [], ◌∷◌, ◌++◌, refl, sym, ap, ◌∙◌, append_assoc, inr, rules, of_calls}
use Rattle.std.proofs.lemmas.List.{map-append}
use Rattle.std.proofs.lemmas.Fn.{FoldsTo-push}
use Rattle.pdb_base.proofs.iterator.FallibleIterator.find.Goals as goal

-- the item x is the first of those left
moved : {A : Type 0} (start done old new : List A) (x : A) → start ≡ done ++ old → old ≡ x ∷ new → start ≡ (done ++ x ∷ []) ++ new
moved {A = A} start done old new x e f = e ∙ ap (λ (t : List A). done ++ t) f ∙ sym (append_assoc done (x ∷ []) new)

pub returns-in-Ok-true : goal.returns-in-Ok-true
returns-in-Ok-true g c =
    let inv = c.loop-p.invariant.1 in
    let came = rw c.in-Some.is at c.in_ok-x.ensures.yields in
    let wanted = rw c.in-Ok-true.field-0-test at c.in-Ok-true.ensures in
    (inv.0, c.loop-p.p, inv.3, ((moved _ _ _ _ _ inv.1 came.0, inv.2 ∙ came.1), c.p.new.self, record { shown = _; shows = refl; called = wanted }))

pub returns-in-Err : goal.returns-in-Err
returns-in-Err g c =
    let inv = c.loop-p.invariant.1 in
    let came = rw c.in-Some.is at c.in_ok-x.ensures.yields in
    (inv.0, c.loop-p.p, inv.3, inr (c.in-Some.x, (moved _ _ _ _ _ inv.1 came.0, inv.2 ∙ came.1), c.p.new.self, record { shown = _; shows = refl; called = c.in-Err.ensures }))

pub loop-p-preserved : goal.loop-p-preserved
loop-p-preserved g c =
    let it = g.Self.FallibleIterator in
    let inv = c.loop-p.invariant.1 in
    let came = rw c.in-Some.is at c.in_ok-x.ensures.yields in
    let unwanted = rw c.in-Ok-false.field-0-test at c.in-Ok-false.ensures in
    let x = c.in-Some.x in (
      search (rules, of_calls),
      (
        inv.0 ++ x ∷ [],
        rw map-append (moved _ _ _ _ _ inv.1 came.0),
        inv.2 ∙ came.1,
        FoldsTo-push _ _ inv.0 _ x _ inv.3 (record { shown = _; shows = refl; called = unwanted }),
      ),
    )
