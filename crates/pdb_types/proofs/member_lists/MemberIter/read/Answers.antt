use Rattle.std.proofs.Common.{arith}
use Rattle.pdb_types.specs.MemberViews.{shown_found}
use Rattle.pdb_types.specs.ReadListViews.{lists_read}
use Rattle.pdb_types.proofs.MemberSteps.{entry_inside, fault_left, list_left, member_left}
use Rattle.pdb_types.proofs.member_lists.MemberIter.read.Goals as goal

pub returns-in-Some-clause-step : goal.returns-in-Some-clause-step
returns-in-Some-clause-step c =
    let named = c.named_behind-self.ensures in
    rw named (member_left c.args.self.now.types.now (lists_read c.args.self.now.read) c.args.self.now.lists c.args.self.now.bytes.now c.args.self.now.at c.args.self.now.list (shown_found c.in-Ok.found) _ c.in-Ok.ensures.reads c.in-Some.ensures)

pub returns-in-None-clause-step : goal.returns-in-None-clause-step
returns-in-None-clause-step c =
    let named = c.named_behind-self.ensures in
    let within = entry_inside c.args.self.now.bytes.now c.args.self.now.at (shown_found c.in-Ok.found) c.in-Ok.ensures.reads in
    rw named (list_left c.args.self.now.types.now (lists_read c.args.self.now.read) c.args.self.now.lists c.args.self.now.bytes.now c.args.self.now.at c.args.self.now.list (shown_found c.in-Ok.found) c.in-Ok.ensures.reads c.in-None.ensures, omega (arith, within))

pub returns-in-Err-clause-step : goal.returns-in-Err-clause-step
returns-in-Err-clause-step c = fault_left c.args.self.now.types.now (lists_read c.args.self.now.read) c.args.self.now.lists c.args.self.now.bytes.now c.args.self.now.at c.args.self.now.list _ c.requires c.in-Err.ensures.reads.0
