use Rattle.pdb_resolve.specs.FileParts.{items_listed}
use Rattle.tool_types.proofs.type_texts.print_asked.Goals as goal

pub returns-clause-prints : goal.returns-clause-prints
unfolding items_listed
returns-clause-prints g c = λ told. rw (c.in_ok-tables.ensures.items, c.in_ok-tables.ensures.definitions, c.as_ref.ensures.value, (c.in_ok-information.ensures.is told)) at c.print_each.ensures.prints
