use Rattle.std.proofs.Common.{◌≡◌, ◌∙◌, true, sym}
use Rattle.std.specs.Prelude.{codes}
use Rattle.std.proofs.lemmas.Slice.Eq.{bytes_eq-Decides}
use Rattle.tool_arguments.specs.Wildcards.{matches}
use Rattle.tool_arguments.proofs.Patterns.{star_alone}
use Rattle.tool_arguments.proofs.wildcards.matches.Goals as goal

pub returns-then-is_star : goal.returns-then-is_star
returns-then-is_star c =
    let star = (bytes_eq-Decides c.args.pattern.now (codes "*")).0 (sym c.is_star.ensures ∙ c.if-is_star.true) in
    let passes : true ≡ matches c.args.pattern.now c.args.name.now = rw star (sym (star_alone c.args.name.now)) in
    c.if-is_star.true ∙ passes
