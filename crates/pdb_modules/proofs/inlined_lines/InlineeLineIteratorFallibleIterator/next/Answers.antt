use Rattle.std.proofs.Common.{Some, Ok, Err, length, arith, rules, refl, ap, ◌∙◌}
use Rattle.pdb_symbols.specs.AnnotationViews.{annotations_left}
use Rattle.pdb_modules.proofs.InlinedSteps.{turn_gives, turn_opens, turn_passes, taken_turn, fault_turn, yields_from, lines_few, none_more, no_fault, items_ended, fault_ended}
use Rattle.pdb_modules.proofs.inlined_lines.InlineeLineIteratorFallibleIterator.next.Goals as goal

pub returns-in-Some-emit-clause-yields : goal.returns-in-Some-emit-clause-yields
returns-in-Some-emit-clause-yields c =
    let read = rw c.in-Ok-Some.field-0-is at c.in-Ok-Some.ensures.yields in
    let taken = c.take_in.ensures in
    yields_from _ _ _ (Ok (Some c.in-Some-emit.line)) c.loop-annotation.invariant.left
    (turn_gives c.loop-annotation.self.lines c.take_in.new.self c.in-Ok-Some.annotation _ _ c.take_in.result read taken.section taken.seen taken.quiet taken.emits
    c.emit.new.self c.in-Some.length c.emit.result c.in-Some.is c.emit.ensures.gives c.emit.ensures.pending c.in-Some-emit.line c.in-Some-emit.is)

pub returns-in-Some-emit-clause-rests : goal.returns-in-Some-emit-clause-rests
returns-in-Some-emit-clause-rests c =
    let read = rw c.in-Ok-Some.field-0-is at c.in-Ok-Some.ensures.yields in
    λ e. absurd (none_more _ _ c.in-Ok-Some.annotation (items_ended (annotations_left c.loop-annotation.self.annotations) (c.loop-annotation.invariant.resting e).0.0) read.0)

pub returns-in-Some-emit-clause-few : goal.returns-in-Some-emit-clause-few
returns-in-Some-emit-clause-few c =
    let before = c.args.self.now in
    let few = lines_few before.lines.section before.lines.seen before.lines.pending (annotations_left before.annotations) in
    let same = ap length (c.in-Ok-Some.ensures.bytes ∙ c.loop-annotation.invariant.bytes) in
    omega (arith, few, before.room, same, c.in-Ok-Some.ensures.small)

pub loop-annotation-preserved-in_default-emit : goal.loop-annotation-preserved-in_default-emit
loop-annotation-preserved-in_default-emit c =
    let read = rw c.in-Ok-Some.field-0-is at c.in-Ok-Some.ensures.yields in
    let taken = c.take_in.ensures in
    record {
      left = c.loop-annotation.invariant.left ∙ turn_opens c.loop-annotation.self.lines c.take_in.new.self c.in-Ok-Some.annotation _ _ c.take_in.result read taken.section taken.seen taken.quiet taken.emits
          c.emit.new.self c.in-Some.length c.emit.result c.in-Some.is c.emit.ensures.gives c.emit.ensures.pending (search rules);
      bytes = search rules;
      steps = omega (arith, c.loop-annotation.invariant.steps, c.tick.ensures);
      counts = omega (arith, c.loop-annotation.invariant.counts, c.tick.ensures, ap length read.0);
      resting = λ e. absurd (none_more _ _ c.in-Ok-Some.annotation (items_ended (annotations_left c.loop-annotation.self.annotations) (c.loop-annotation.invariant.resting e).0.0) read.0);
    }

pub loop-annotation-preserved : goal.loop-annotation-preserved
loop-annotation-preserved c =
    let read = rw c.in-Ok-Some.field-0-is at c.in-Ok-Some.ensures.yields in
    let taken = c.take_in.ensures in
    record {
      left = c.loop-annotation.invariant.left ∙ turn_passes c.loop-annotation.self.lines c.take_in.new.self c.in-Ok-Some.annotation _ _ c.take_in.result read taken.section taken.seen taken.quiet taken.emits (search rules);
      bytes = search rules;
      steps = omega (arith, c.loop-annotation.invariant.steps, c.tick.ensures);
      counts = omega (arith, c.loop-annotation.invariant.counts, c.tick.ensures, ap length read.0);
      resting = λ e. absurd (none_more _ _ c.in-Ok-Some.annotation (items_ended (annotations_left c.loop-annotation.self.annotations) (c.loop-annotation.invariant.resting e).0.0) read.0);
    }

pub returns-in-Err-clause-yields : goal.returns-in-Err-clause-yields
returns-in-Err-clause-yields c =
    yields_from _ _ _ (Err c.in-Err.error) c.loop-annotation.invariant.left
    (fault_turn c.loop-annotation.self.lines.section c.loop-annotation.self.lines.seen _ _ c.loop-annotation.self.lines.pending c.in-Err.error c.in-Err.ensures.yields)

pub returns-in-Err-clause-rests : goal.returns-in-Err-clause-rests
returns-in-Err-clause-rests c = λ e. absurd (no_fault _ c.in-Err.error (fault_ended (annotations_left c.loop-annotation.self.annotations) (c.loop-annotation.invariant.resting e).0.0) c.in-Err.ensures.yields.1)

pub returns-in-Err-clause-ends_at_fault : goal.returns-in-Err-clause-ends_at_fault
returns-in-Err-clause-ends_at_fault c = (c.in-Err.ensures.yields.2, refl)

pub returns-in-Err-clause-stepped_to_fault : goal.returns-in-Err-clause-stepped_to_fault
returns-in-Err-clause-stepped_to_fault c =
    let none = ap length c.in-Err.ensures.yields.0 in
    omega (arith, c.loop-annotation.invariant.counts, c.tick-in-Err.ensures, none)

pub returns-in-Some-emit-clause-stepped : goal.returns-in-Some-emit-clause-stepped
returns-in-Some-emit-clause-stepped c =
    let read = rw c.in-Ok-Some.field-0-is at c.in-Ok-Some.ensures.yields in
    λ going. omega (arith, c.loop-annotation.invariant.counts, c.tick.ensures, ap length read.0)

pub returns-then-is_some-clause-yields : goal.returns-then-is_some-clause-yields
returns-then-is_some-clause-yields c =
    let read = rw c.in-Ok-None.field-0-is at c.in-Ok-None.ensures.yields in
    yields_from _ _ _ (Ok c.take-last.result) c.loop-annotation.invariant.left
    (taken_turn c.loop-annotation.self.lines.section c.loop-annotation.self.lines.seen _ _ c.loop-annotation.self.lines.pending c.take-last.result _ c.take-last.ensures.value c.take-last.ensures.after read)

pub returns-else-is_some-clause-yields : goal.returns-else-is_some-clause-yields
returns-else-is_some-clause-yields c =
    let read = rw c.in-Ok-None.field-0-is at c.in-Ok-None.ensures.yields in
    yields_from _ _ _ (Ok c.take-last.result) c.loop-annotation.invariant.left
    (taken_turn c.loop-annotation.self.lines.section c.loop-annotation.self.lines.seen _ _ c.loop-annotation.self.lines.pending c.take-last.result _ c.take-last.ensures.value c.take-last.ensures.after read)
