use Rattle.std.proofs.Common.{◌-◌, map, take, Some, sym, subst, ◌∙◌, arith}
use Rattle.pdb_modules.specs.declared.line_search.Begun.{Begun}
use Rattle.pdb_modules.specs.Blocks.{entries_of}
use Rattle.pdb_modules.specs.BlockViews.{block_of}
use Rattle.pdb_modules.specs.Lines.{entry_mark}
use Rattle.pdb_modules.specs.KeptRows.{after}
use Rattle.pdb_modules.specs.LineSearch.{IsSearched}
use Rattle.pdb_modules.proofs.PassedEntries.{passed_to}
use Rattle.pdb_modules.proofs.line_search.pass.Goals as goal

pub returns-then-count-gt0-clause-searched : goal.returns-then-count-gt0-clause-searched
returns-then-count-gt0-clause-searched c = λ rs s.
    let n = c.count_passed-count.result in
    subst (λ (b : Begun). IsSearched c.args.place (after rs (map (entry_mark c.args.from) (take n (entries_of c.args.has_columns (block_of c.args.block))))) (Some b)) (sym c.begun_at.ensures)
    (passed_to c.args.place c.args.from c.args.has_columns (block_of c.args.block) rs c.args.last s (sym c.is_open.ensures ∙ c.if-is_open.true) n (n - 1) (omega arith) c.count_passed-count.ensures.inside c.count_passed-count.ensures.passed)
