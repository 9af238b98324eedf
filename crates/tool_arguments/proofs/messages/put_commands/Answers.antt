use Rattle.tool_arguments.specs.Commands.{commands}
use Rattle.tool_arguments.specs.Messages.{command_behind}
use Rattle.tool_arguments.proofs.Pieces.{one_more}
use Rattle.tool_arguments.specs.declared.commands.Command.TheVariants.{Resolve}
use Rattle.tool_arguments.proofs.messages.put_commands.Goals as goal

pub loop-command-preserved : goal.loop-command-preserved
loop-command-preserved c = one_more command_behind commands c.loop-command.command-index Resolve _ c.loop-command.out.items c.args.out.now.items c.loop-command-test.true c.loop-command.invariant (c.in_ok-put_command.ensures)
