use Rattle.std.proofs.Common.{◌≡◌, map, drop}
use Rattle.tool_arguments.specs.Operands.{source_in, all_in, operand_view}
use Rattle.tool_arguments.specs.SourceViews.{source_view}
use Rattle.tool_arguments.proofs.AllWords.{behind}
use Rattle.tool_arguments.proofs.operands.all_sources.Given as goal

-- what all operands are is what those so far are, and then the others
abbrev pub invariant-loop-operand : goal.invariant-loop-operand
invariant-loop-operand l = record {
  judged : all_in source_in (map operand_view l.operands) ≡ behind (map source_view l.all.items) (all_in source_in (map operand_view (drop l.operand-index l.operands)));
}
