use Rattle.std.proofs.Common.{◌∙◌, refl}
use Rattle.tool_arguments.proofs.Patterns.{begun, not_begun, no_star_at_all, whole_name}
use Rattle.tool_arguments.proofs.wildcards.matches_from_start.Goals as goal

pub returns-in-None : goal.returns-in-None
returns-in-None c = c.eq.ensures ∙ whole_name c.args.pattern.now c.args.name.now (no_star_at_all _ c.in-None.ensures)

pub returns-then-starts_with_str : goal.returns-then-starts_with_str
returns-then-starts_with_str c = c.matches_somewhere.ensures ∙ begun c.args.pattern.now c.args.name.now c.in-Some.star c.in-Some.ensures (c.if-starts_with_str.ensures.0 refl)

pub returns-else-starts_with_str : goal.returns-else-starts_with_str
returns-else-starts_with_str c = not_begun c.starts_with_str.result c.args.pattern.now c.args.name.now c.in-Some.star c.in-Some.ensures c.if-starts_with_str.false c.starts_with_str.ensures
