use Rattle.std.proofs.Common.{◌≡◌, ◌-◌, ap, refl, sym, subst, ◌∙◌, true≢false, arith, rules}
use Rattle.pdb_file.specs.HeldBytes.{IsKept}
use Rattle.pdb_file.proofs.Files.{with_kept}
use Rattle.pdb_file.proofs.FreeRuns.{free_between, reached_by_last, reaches_next}
use Rattle.pdb_file.proofs.held.Held.insert.Goals as goal

pub returns-then-not-is_behind_last-clause-exact : goal.returns-then-not-is_behind_last-clause-exact
returns-then-not-is_behind_last-clause-exact c =
    let same : c.deref.result.now ≡ c.args.self.now.runs = c.deref.ensures.value ∙ ap (λ k. k.runs) c.self.view_is in
    let kept : IsKept c.args.self.now = subst IsKept c.self.view_is c.self.invariant in
    let reached = rw same at (c.if-not-is_behind_last.ensures.reached refl) in
    let front = c.before-index.ensures.front (c.before-index.result - 1) c.args.run (omega arith) (omega (arith, reached.0)) in
    (λ h. absurd (true≢false (sym h)), λ free. absurd (reached_by_last c.args.self.now (c.before-index.result - 1) c.args.run c.args.run kept (omega (arith, reached.0, reached.1)) front (reached.2 c.args.run) free))

pub returns-then-not-is_before_next-clause-exact : goal.returns-then-not-is_before_next-clause-exact
returns-then-not-is_before_next-clause-exact c =
    let same : c.deref-2.result.now ≡ c.args.self.now.runs = c.deref-2.ensures.value ∙ ap (λ k. k.runs) c.self.view_is in
    let kept : IsKept c.args.self.now = subst IsKept c.self.view_is c.self.invariant in
    let reaches = rw same at (c.if-not-is_before_next.ensures.reaches refl) in
    let back = c.before-index.ensures.back c.before-index.result c.args.run (omega arith) reaches.0 in
    (λ h. absurd (true≢false (sym h)), λ free. absurd (reaches_next c.args.self.now c.before-index.result c.args.run c.args.run kept reaches.0 back (reaches.1 c.args.run) free))

pub invariant_of-self-2 : goal.invariant_of-self-2
invariant_of-self-2 c =
    let last = rw c.deref.ensures.value at (c.if-not-is_behind_last.ensures.behind refl) in
    let next = rw c.deref-2.ensures.value at (c.if-not-is_before_next.ensures.before refl) in
    let bound = rw (← c.self.view_is) at c.before-index.ensures.bound in
    rw c.in_ok-insert.ensures.items (with_kept (record { size = c.self.inside.size; runs = c.self.inside.runs.items }) c.before-index.result c.args.run c.self.invariant (search rules) (search rules) bound last next)

pub returns-clause-exact : goal.returns-clause-exact
returns-clause-exact c =
    let same : c.deref.result.now ≡ c.args.self.now.runs = c.deref.ensures.value ∙ ap (λ k. k.runs) c.self.view_is in
    let same-2 : c.deref-2.result.now ≡ c.args.self.now.runs = c.deref-2.ensures.value ∙ ap (λ k. k.runs) c.self.view_is in
    let kept : IsKept c.args.self.now = subst IsKept c.self.view_is c.self.invariant in
    let last = rw same at (c.if-not-is_behind_last.ensures.behind refl) in
    let next = rw same-2 at (c.if-not-is_before_next.ensures.before refl) in
    (λ h. free_between c.args.self.now c.before-index.result c.args.run kept (search rules) (search rules) c.before-index.ensures.bound last next, λ free. refl)
