use Rattle.std.proofs.Common.{◌≡◌, ◌++◌, take, flat_map}
use Rattle.tool_arguments.specs.Messages.{command_behind}
use Rattle.tool_arguments.proofs.messages.put_commands.Given as goal

abbrev pub invariant-loop-command : goal.invariant-loop-command
invariant-loop-command l = l.out.items ≡ l.initial.out.items ++ flat_map command_behind (take l.command-index l.command-items)
