use Rattle.std.proofs.Common.{arith}
use Rattle.pdb_types.specs.ReadListViews.{lists_read}
use Rattle.pdb_types.proofs.MemberSteps.{end_left}
use Rattle.pdb_types.proofs.member_lists.MemberIter.step.Goals as goal

pub returns-in-None-clause-step : goal.returns-in-None-clause-step
returns-in-None-clause-step c =
    let none = c.in-None.is in
    let past = c.if-self.false in
    rw none (end_left c.args.self.now.types.now (lists_read c.args.self.now.read) c.args.self.now.lists c.args.self.now.bytes.now c.args.self.now.at (omega (arith, past)))
