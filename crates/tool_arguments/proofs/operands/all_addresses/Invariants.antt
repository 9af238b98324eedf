use Rattle.std.proofs.Common.{◌≡◌, map, drop}
use Rattle.tool_arguments.specs.Operands.{address_in, all_in, operand_view}
use Rattle.tool_arguments.specs.Requests.{address_view}
use Rattle.tool_arguments.proofs.AllWords.{behind}
use Rattle.tool_arguments.proofs.operands.all_addresses.Given as goal

-- what all operands are is what those so far are, and then the others
abbrev pub invariant-loop-operand : goal.invariant-loop-operand
invariant-loop-operand l = record {
  judged : all_in address_in (map operand_view l.operands) ≡ behind (map address_view l.all.items) (all_in address_in (map operand_view (drop l.operand-index l.operands)));
}
