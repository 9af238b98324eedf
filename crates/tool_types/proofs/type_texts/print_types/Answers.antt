use Rattle.tool_types.proofs.TypeLists.{no_types, some_types}
use Rattle.tool_types.proofs.type_texts.print_types.Goals as goal

pub returns-in-Some-clause-prints : goal.returns-in-Some-clause-prints
returns-in-Some-clause-prints g c = λ told. rw (some_types c.args.pdb.now.file c.args.indices.now _ _ c.in-Some.ensures.cases.0) (c.print_asked.ensures.prints told)

pub returns-in-None-clause-prints : goal.returns-in-None-clause-prints
returns-in-None-clause-prints g c = λ told. rw (no_types c.args.pdb.now.file c.args.indices.now c.in-None.ensures.cases) (c.print_all.ensures.prints told)
