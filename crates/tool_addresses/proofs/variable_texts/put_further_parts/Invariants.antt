use Rattle.std.proofs.Common.{◌≡◌, ◌++◌, take}
use Rattle.tool_addresses.specs.VariableTexts.{further_parts}
use Rattle.tool_addresses.proofs.variable_texts.put_further_parts.Given as goal

-- the parts so far were put
abbrev pub invariant-loop-part : goal.invariant-loop-part
invariant-loop-part l = l.out.items ≡ l.fn.out.items ++ further_parts l.machine (take l.part-index l.parts)
