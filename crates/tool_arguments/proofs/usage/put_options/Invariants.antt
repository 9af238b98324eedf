use Rattle.std.proofs.Common.{◌≡◌, ◌++◌, take, flat_map}
use Rattle.tool_arguments.specs.Usage.{usage_part}
use Rattle.tool_arguments.proofs.usage.put_options.Given as goal

abbrev pub invariant-loop-option : goal.invariant-loop-option
invariant-loop-option l = l.out.items ≡ l.initial.out.items ++ flat_map (usage_part l.command) (take l.option-index l.option-items)
