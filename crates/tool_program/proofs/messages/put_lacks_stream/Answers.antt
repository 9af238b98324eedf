use Rattle.std.proofs.Common.{◌++◌, codes, ap, ◌∙◌, append_assoc}
use Rattle.tool_arguments.specs.StreamsAsked.{stream_view}
use Rattle.tool_program.specs.Messages.{lacking, named}
use Rattle.tool_program.proofs.messages.put_lacks_stream.Goals as goal

pub returns : goal.returns
returns c =
    let which = lacking (stream_view c.args.asked) in
    c.in_ok-put_lacking.ensures ∙ (ap (λ xs. xs ++ which) c.in_ok-put_named.ensures ∙ append_assoc c.args.out.now.items (named (codes "pdb_tool: ") c.args.name.now (codes " has no stream ")) which)
