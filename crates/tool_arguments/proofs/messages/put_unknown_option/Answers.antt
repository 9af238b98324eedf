use Rattle.std.proofs.Common.{◌++◌, append_assoc, ap, ◌∙◌}
use Rattle.tool_arguments.specs.Commands.{name_of}
use Rattle.tool_arguments.specs.Messages.{option_names}
use Rattle.tool_arguments.proofs.messages.put_unknown_option.Goals as goal

pub returns : goal.returns
returns c =
    let text = c.in_ok-put_command_options.ensures ∙ (ap (λ xs. xs ++ (name_of c.args.command ++ option_names c.args.command)) c.in_ok-put_between.ensures ∙ append_assoc c.args.out.now.items _ _) in
    rw c.name_part.ensures at text
