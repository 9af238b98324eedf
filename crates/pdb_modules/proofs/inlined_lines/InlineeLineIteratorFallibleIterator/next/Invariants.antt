use Rattle.std.proofs.Common.{◌≡◌, ◌+◌, ◌≤◌, length}
use Rattle.pdb_symbols.specs.AnnotationViews.{annotations_left}
use Rattle.pdb_modules.specs.InlinedViews.{inlined_left, inlined_part, inlined_steps, inlined_ahead, InlinedEnded}
use Rattle.pdb_modules.proofs.inlined_lines.InlineeLineIteratorFallibleIterator.next.Given as goal

-- what is left stays the same until a record is given
abbrev pub invariant-loop-annotation : goal.invariant-loop-annotation
invariant-loop-annotation l = record {
  left : inlined_left l.fn.self ≡ inlined_left l.self;
  bytes : inlined_part l.self ≡ inlined_part l.fn.self;
  steps : inlined_steps l.fn.self ≤ inlined_steps l.self;
  counts : inlined_steps l.self + inlined_ahead l.self ≡ inlined_steps l.fn.self + inlined_ahead l.fn.self;
  resting : InlinedEnded l.fn.self → InlinedEnded l.self × (inlined_steps l.self ≡ inlined_steps l.fn.self);
}

abbrev pub decreases-loop-annotation : goal.decreases-loop-annotation
decreases-loop-annotation l = length (annotations_left l.self.annotations).items
