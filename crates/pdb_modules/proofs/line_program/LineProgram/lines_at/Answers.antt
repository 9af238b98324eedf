use Rattle.std.proofs.Common.{arith, ap, length}
use Rattle.pdb_modules.specs.LineProgram.{ProgramOf}
use Rattle.pdb_modules.proofs.LinesAt.{range_in, range_few, own_at, lines_at_range, bytes_at_range}
use Rattle.pdb_modules.proofs.line_program.LineProgram.lines_at.Goals as goal

pub split_at-requires : goal.split_at-requires
split_at-requires c =
    let r = range_in _ _ _ _ _ c.self.invariant _ c.args.index _ (ap (λ (p : ProgramOf). p.subsections) c.self.view_is) c.requires c.index-listed.ensures in
    omega (arith, r.0, r.1, ap length c.as_slice.ensures.value)

pub overflow_sub-listed : goal.overflow_sub-listed
overflow_sub-listed c =
    let r = range_in _ _ _ _ _ c.self.invariant _ c.args.index _ (ap (λ (p : ProgramOf). p.subsections) c.self.view_is) c.requires c.index-listed.ensures in
    r.0

pub split_at-requires-2 : goal.split_at-requires-2
split_at-requires-2 c =
    let r = range_in _ _ _ _ _ c.self.invariant _ c.args.index _ (ap (λ (p : ProgramOf). p.subsections) c.self.view_is) c.requires c.index-listed.ensures in
    omega (arith, r.0, r.1, c.split_at.ensures.back_len, ap length c.as_slice.ensures.value)

pub returns-clause-left : goal.returns-clause-left
returns-clause-left c =
    lines_at_range _ _ _ _ _ c.self.invariant _ c.args.index _ (ap (λ (p : ProgramOf). p.subsections) c.self.view_is) c.requires c.index-listed.ensures _ _ _ _ c.as_slice.ensures.value c.split_at.ensures.back c.split_at-2.ensures.front c.new.ensures.left

pub new-requires-clause-own : goal.new-requires-clause-own
new-requires-clause-own c =
    own_at _ _ _ _ _ c.self.invariant _ c.args.index _ (ap (λ (p : ProgramOf). p.subsections) c.self.view_is) c.requires c.index-listed.ensures

pub new-requires-clause-room : goal.new-requires-clause-room
new-requires-clause-room c =
    let r = range_few _ _ _ _ _ c.self.invariant _ c.args.index _ (ap (λ (p : ProgramOf). p.subsections) c.self.view_is) c.requires c.index-listed.ensures in
    let i = range_in _ _ _ _ _ c.self.invariant _ c.args.index _ (ap (λ (p : ProgramOf). p.subsections) c.self.view_is) c.requires c.index-listed.ensures in
    omega (arith, r, i.0, c.split_at-2.ensures.front_len)

pub returns-clause-part : goal.returns-clause-part
returns-clause-part c = bytes_at_range _ _ _ _ _ c.self.invariant _ c.args.index _ (ap (λ (p : ProgramOf). p.subsections) c.self.view_is) c.requires c.index-listed.ensures _ c.new.ensures.part
