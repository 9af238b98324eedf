use Rattle.std.proofs.Common.{◌++◌, append_assoc, ap, ◌∙◌}
use Rattle.tool_arguments.specs.Messages.{suggestion}
use Rattle.tool_arguments.proofs.messages.put_unknown_command.Goals as goal

pub returns : goal.returns
returns c = c.in_ok-put_suggestion.ensures ∙ (ap (λ xs. xs ++ suggestion c.args.closest) c.in_ok-put_between.ensures ∙ append_assoc c.args.out.now.items _ _)
