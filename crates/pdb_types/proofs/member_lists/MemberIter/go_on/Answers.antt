use Rattle.std.proofs.Common.{sym, ◌∙◌, arith}
use Rattle.pdb_types.specs.ReadListViews.{lists_read}
use Rattle.pdb_types.proofs.MemberSteps.{absent_left, endless_left, more_left}
use Rattle.pdb_types.proofs.member_lists.MemberIter.go_on.Goals as goal

pub returns-then-has-clause-step : goal.returns-then-has-clause-step
returns-then-has-clause-step c =
    let named = c.requires.named in
    let old = sym c.has.ensures ∙ c.if-has.true in
    rw named (endless_left c.args.self.now.types.now (lists_read c.args.self.now.read) c.args.self.now.lists c.args.self.now.bytes.now c.args.self.now.at c.args.list c.requires.ended old)

pub returns-then-self-eq0-clause-step : goal.returns-then-self-eq0-clause-step
returns-then-self-eq0-clause-step c =
    let named = c.requires.named in
    let new = sym c.has.ensures ∙ c.if-has.false in
    rw named (more_left c.args.self.now.types.now (lists_read c.args.self.now.read) c.args.self.now.lists c.args.self.now.bytes.now c.args.self.now.at c.args.list c.requires.ended new c.if-self-eq0.true)

pub returns-in-None-clause-step : goal.returns-in-None-clause-step
returns-in-None-clause-step c =
    let named = c.requires.named in
    let new = sym c.has.ensures ∙ c.if-has.false in
    let some = c.if-self-eq0.false in
    let added = c.add.ensures in
    rw (named, added) (absent_left c.args.self.now.types.now (lists_read c.args.self.now.read) c.args.self.now.lists c.args.self.now.bytes.now c.args.self.now.at c.args.list c.requires.ended new (omega (arith, some)) (sym c.in-None.ensures.bytes))
