use Rattle.std.specs.Prelude.{codes}
use Rattle.std.specs.Fmt.{decimal}
use Rattle.pdb_types.proofs.CutLemmas.{on_three}
use Rattle.pdb_types.proofs.pieces.put_table.Goals as goal

pub returns-clause-ok : goal.returns-clause-ok
returns-clause-ok c = on_three c.put-2.result c.args.limit c.args.out.now.items (codes "<vftable ") (decimal c.args.methods) (codes " methods>") _ _ _ c.in_ok-put.ensures.ok (rw c.from.ensures at c.in_ok-put_number.ensures.ok) c.put-2.ensures.ok
