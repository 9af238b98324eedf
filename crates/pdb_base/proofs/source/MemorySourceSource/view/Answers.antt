use Rattle.std.proofs.Common.{sym, ap, ◌∙◌, length}
use Rattle.pdb_base.proofs.Views.{flat_length}
use Rattle.pdb_base.proofs.source.MemorySourceSource.view.Goals as goal

pub returns-clause-sized : goal.returns-clause-sized
returns-clause-sized c = ap length c.in_ok-copied.ensures ∙ flat_length _ c.args.slices.now (sym c.all_inside.ensures ∙ c.if-not-all_inside.false)
