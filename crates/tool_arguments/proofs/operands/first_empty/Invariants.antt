use Rattle.std.proofs.Common.{◌≡◌, map, drop}
use Rattle.tool_arguments.specs.Operands.{first_empty, operand_view}
use Rattle.tool_arguments.proofs.operands.first_empty.Given as goal

-- none so far is empty
abbrev pub invariant-loop-operand : goal.invariant-loop-operand
invariant-loop-operand l = record {
  told : first_empty (map operand_view l.operands) ≡ first_empty (map operand_view (drop l.operand-index l.operands));
}
