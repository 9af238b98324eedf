use Rattle.std.proofs.Common.{List, ℕ, ◌++◌, codes, ap, sym, ◌∙◌, append_assoc}
use Rattle.tool_symbols.specs.Depth.{blanks_of}
use Rattle.tool_symbols.proofs.Blanks.{blanks_more}
use Rattle.tool_symbols.proofs.depth.put_many_blanks.Goals as goal

pub loop-preserved : goal.loop-preserved
loop-preserved c =
    c.in_ok-extend_from_slice.ensures.items ∙ ap (λ (xs : List ℕ). xs ++ codes "  ") c.loop.invariant
    ∙ append_assoc c.args.out.now.items (blanks_of c.loop.counter) (codes "  ")
    ∙ ap (λ (xs : List ℕ). c.args.out.now.items ++ xs) (sym (blanks_more c.loop.counter))
