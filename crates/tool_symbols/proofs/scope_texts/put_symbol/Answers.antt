use Rattle.tool_types.specs.KeptViews.{kept_names}
use Rattle.tool_symbols.proofs.ScopeLines.{line_of_other, lines_of_range}
use Rattle.tool_symbols.proofs.scope_texts.put_symbol.Goals as goal

pub returns-then-not-is_of_ranges-clause-lines : goal.returns-then-not-is_of_ranges-clause-lines
returns-then-not-is_of_ranges-clause-lines c =
    line_of_other _ _ _ _ _ c.put_line.result _ _ (rw (c.is_of_ranges.ensures, c.raw_kind.ensures) at c.if-not-is_of_ranges.true) c.put_line.ensures.line

pub returns-clause-lines : goal.returns-clause-lines
returns-clause-lines c =
    lines_of_range (kept_names c.args.kept.now) c.args.machine c.args.around.now c.args.variable _ _ _ (rw (c.is_of_ranges.ensures, c.raw_kind.ensures) at c.if-not-is_of_ranges.false) (rw c.innermost.ensures at c.in_ok-put_behind.ensures)
