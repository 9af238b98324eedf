use Rattle.std.proofs.Common.{◌∙◌}
use Rattle.tool_arguments.proofs.Patterns.{found, last_piece, no_star_at_all, not_found}
use Rattle.tool_arguments.proofs.wildcards.+matches_somewhere.Goals as goal

pub returns-in-None : goal.returns-in-None
returns-in-None n c = last_piece c.ends_with_str.result c.args.pattern.now c.args.name.now (no_star_at_all _ c.in-None.ensures) c.ends_with_str.ensures

pub returns-in-Some-find : goal.returns-in-Some-find
returns-in-Some-find n c = c.matches_somewhere.ensures ∙ found c.args.pattern.now c.args.name.now c.in-Some.star c.in-Some-find.at c.in-Some.ensures c.in-Some-find.ensures

pub returns-in-None-find : goal.returns-in-None-find
returns-in-None-find n c = not_found c.args.pattern.now c.args.name.now c.in-Some.star c.in-Some.ensures c.in-None-find.ensures
