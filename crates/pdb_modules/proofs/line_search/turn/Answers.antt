use Rattle.std.proofs.Common.{sym, ◌∙◌}
use Rattle.pdb_modules.proofs.LineSearches.{at_marker}
use Rattle.pdb_modules.proofs.line_search.turn.Goals as goal

pub returns-then-is_marker : goal.returns-then-is_marker
returns-then-is_marker c = λ rs s. at_marker c.args.place rs c.args.last s c.args.mark c.args.line c.noted.result (sym c.is_marker.ensures ∙ c.if-is_marker.true) c.noted.ensures
