use Rattle.tool_types.proofs.type_texts.print_stream.Goals as goal

pub returns-clause-prints : goal.returns-clause-prints
returns-clause-prints g c =
    let printed = rw (c.in_ok-tables.ensures.items, c.in_ok-tables.ensures.definitions) at c.print_left.ensures.prints in
    rw (c.in-Ok.ensures.left) printed
