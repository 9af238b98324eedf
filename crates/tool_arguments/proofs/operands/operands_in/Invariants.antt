use Rattle.std.proofs.Common.{◌≡◌, ◌+◌, ◌++◌, map, drop, string_bytes}
use Rattle.tool_arguments.specs.Operands.{operand_view, operands_of}
use Rattle.tool_arguments.specs.declared.options.Next.TheVariants.{Word}
use Rattle.tool_arguments.proofs.operands.operands_in.Given as goal

-- all operands are those so far, and then those of the other words
abbrev pub invariant-loop-index : goal.invariant-loop-index
invariant-loop-index l = record {
  told : operands_of Word (map string_bytes l.words) l.argument ≡ map operand_view l.all.items ++ operands_of l.next (map string_bytes (drop l.index l.words)) (l.argument + l.index);
}
