use Rattle.std.proofs.Common.{◌≡◌, ◌+◌, ◌++◌, map, drop, string_bytes}
use Rattle.tool_arguments.specs.Operands.{operand_view}
use Rattle.tool_arguments.specs.SymbolValues.{symbol_values}
use Rattle.tool_arguments.specs.declared.options.Next.TheVariants.{Word}
use Rattle.tool_arguments.proofs.symbol_values.symbol_values.Given as goal

-- all values are those so far, and then those of the other words
abbrev pub invariant-loop-index : goal.invariant-loop-index
invariant-loop-index l = record {
  told : symbol_values Word (map string_bytes l.words) l.argument ≡ map operand_view l.all.items ++ symbol_values l.next (map string_bytes (drop l.index l.words)) (l.argument + l.index);
}
