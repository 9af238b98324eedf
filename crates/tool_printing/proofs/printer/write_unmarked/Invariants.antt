use Rattle.std.proofs.Common.{◌≡◌, ℕ, List, ◌++◌, length}
use Rattle.std.specs.Io.KnownBytes.{Appends}
use Rattle.tool_printing.specs.Printing.{unmarked}
use Rattle.tool_printing.proofs.printer.write_unmarked.Given as goal

-- a beginning of the text without its marks was written, and what is left of it is still to come
abbrev pub invariant-loop-at : goal.invariant-loop-at
invariant-loop-at g l = record {
  written : (done : List ℕ) × Appends (g.W.Write.contents l.fn.out) (g.W.Write.contents l.out) done × (unmarked l.text ≡ done ++ unmarked l.rest);
  failures : g.W.CountedWrite.failures l.out ≡ g.W.CountedWrite.failures l.fn.out;
}

abbrev pub decreases-loop-at : goal.decreases-loop-at
decreases-loop-at g l = length l.rest
