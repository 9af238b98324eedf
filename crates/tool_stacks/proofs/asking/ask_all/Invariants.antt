use Rattle.std.proofs.Common.{◌≡◌, drop, map}
use Rattle.tool_stacks.specs.Answers.{Continues, Tells}
use Rattle.tool_stacks.specs.Frames.{asked_all, shown_of}
use Rattle.tool_stacks.specs.LineUses.{reference_use}
use Rattle.tool_stacks.proofs.asking.ask_all.Given as goal

-- the references so far were asked, and the others stand in what is left
abbrev pub invariant-loop-reference : goal.invariant-loop-reference
invariant-loop-reference g l =
    let state = g.S.Symbols.state in
    record {
      continues : Continues (state l.fn.symbols) (state l.symbols);
      shows : Tells (state l.fn.symbols) (state l.symbols) (λ a. asked_all a l.is_return (map (reference_use l.line) (drop l.reference-index l.references)) (shown_of l.shown) ≡ asked_all a l.is_return (map (reference_use l.line) l.references) (shown_of l.fn.shown));
    }
