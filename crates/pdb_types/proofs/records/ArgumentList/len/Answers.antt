use Rattle.std.proofs.Common.{sym}
use Rattle.pdb_items.specs.IdForms.{type_index_of}
use Rattle.pdb_items.proofs.Counted.{listed_count}
use Rattle.pdb_types.proofs.records.ArgumentList.len.Goals as goal

pub returns : goal.returns
returns c = sym (listed_count type_index_of c.args.self.now.arguments.now)
