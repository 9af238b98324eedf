use Rattle.std.proofs.Common.{arith}
use Rattle.pdb_base.proofs.Views.{no-run, viewed-run}
use Rattle.pdb_base.proofs.pages.view_run.Goals as goal

pub returns-then-run-eq0-clause-bytes : goal.returns-then-run-eq0-clause-bytes
returns-then-run-eq0-clause-bytes g c = λ told. no-run (g.S.Meaning.state c.args.source.now).file c.args.run c.if-run-eq0.true

pub returns-clause-bytes : goal.returns-clause-bytes
returns-clause-bytes g c = λ told. rw (← viewed-run (g.S.Meaning.state c.args.source.now).file c.args.run (omega arith)) (c.view.ensures.bytes told)
