use Rattle.std.proofs.Common.{◌≡◌, ◌<◌, ℕ, get_or, length}
use Rattle.pdb_places.specs.declared.span.Span.{Span}
use Rattle.pdb_places.specs.PaintedSections.{IsSectionSpan}
use Rattle.pdb_places.proofs.sections.spans_of.Given as goal

-- those so far have their spans
abbrev pub invariant-loop-number : goal.invariant-loop-number
invariant-loop-number l = record {
  each : (k : ℕ) (d : Span) → k < length l.spans.items → IsSectionSpan l.sections k (get_or l.spans.items k d);
  as_many : length l.spans.items ≡ l.number;
}
