use Rattle.std.proofs.Common.{◌≡◌, get_or, ap, subst, ◌∙◌, arith}
use Rattle.pdb_file.specs.declared.run.Run.{Run}
use Rattle.pdb_file.specs.HeldBytes.{IsKept}
use Rattle.pdb_file.proofs.Files.{first_behind}
use Rattle.pdb_file.proofs.held.Held.next_place.Goals as goal

pub returns-in-Some-clause-least : goal.returns-in-Some-clause-least
returns-in-Some-clause-least c =
    let same : c.deref.result.now ≡ c.args.self.now.runs = c.deref.ensures.value ∙ ap (λ k. k.runs) c.self.view_is in
    let kept : IsKept c.args.self.now = subst IsKept c.self.view_is c.self.invariant in
    first_behind c.args.self.now c.args.at c.min.result c.before-2.result kept c.before-2.ensures.front (λ d.
    let there : c.in-Some.run'.now ≡ get_or c.args.self.now.runs c.before-2.result d = rw same at (c.in-Some.ensures.lookup.3.1 d) in
    omega (arith, c.min.ensures, ap (λ (r : Run). r.at) there))
