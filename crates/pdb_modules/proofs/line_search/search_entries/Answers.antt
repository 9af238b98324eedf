use Rattle.std.proofs.Common.{◌+◌, ◌<◌, ◌≤◌, List, length, refl, subst, sym, ◌∙◌, arith}
use Rattle.std.specs.Prelude.{map, Some, ◌≡◌}
use Rattle.std.proofs.lemmas.List.{take_all}
use Rattle.pdb_modules.specs.declared.line.Entry.{Entry}
use Rattle.pdb_modules.specs.declared.line_info.LineInfo.{LineInfo}
use Rattle.pdb_modules.specs.Blocks.{entries_of}
use Rattle.pdb_modules.specs.BlockViews.{block_of}
use Rattle.pdb_modules.specs.Lines.{entry_mark, all_but_last}
use Rattle.pdb_modules.specs.KeptRows.{after}
use Rattle.pdb_modules.specs.LineSearch.{IsSearched, first_covering, begun_line}
use Rattle.pdb_modules.proofs.PartLemmas.{entry_whole}
use Rattle.pdb_modules.proofs.BlockLemmas.{entry_is, entries_counted}
use Rattle.pdb_modules.proofs.LineSearches.{stays_to_end}
use Rattle.pdb_modules.proofs.line_search.search_entries.Goals as goal

pub returns-in-Found : goal.returns-in-Found
returns-in-Found c =
    let inside : c.loop-i.i < length (entries_of c.args.has_columns (block_of c.args.block)) = omega (arith, entries_counted c.args.has_columns (block_of c.args.block)) in
    λ rs s. stays_to_end c.args.place (entry_mark c.args.from) (entries_of c.args.has_columns (block_of c.args.block)) (c.loop-i.i + 1) rs (begun_line c.in-Found.begun)
    (subst (λ (xs : List LineInfo). first_covering c.args.place (all_but_last xs) ≡ Some (begun_line c.in-Found.begun))
    (entry_whole _ _ _ _ c.entry-entry.result c.entry-entry.result (c.entry-entry.ensures ∙ sym (entry_is _ _ _ _ c.loop-i-test.true)) c.wrapping_add.ensures.section c.wrapping_add.ensures.offset inside rs _ _ refl refl)
    (c.in-Found.ensures _ (c.loop-i.invariant rs s)))

pub loop-i-preserved : goal.loop-i-preserved
loop-i-preserved c =
    let inside : c.loop-i.i < length (entries_of c.args.has_columns (block_of c.args.block)) = omega (arith, entries_counted c.args.has_columns (block_of c.args.block)) in
    λ rs s. subst (λ (xs : List LineInfo). IsSearched c.args.place xs c.in-On.next)
    (entry_whole _ _ _ _ c.entry-entry.result c.entry-entry.result (c.entry-entry.ensures ∙ sym (entry_is _ _ _ _ c.loop-i-test.true)) c.wrapping_add.ensures.section c.wrapping_add.ensures.offset inside rs _ _ refl refl)
    (c.in-On.ensures _ (c.loop-i.invariant rs s))

pub returns : goal.returns
returns c =
    let past : length (entries_of c.args.has_columns (block_of c.args.block)) ≤ c.loop-i.i = omega (arith, entries_counted c.args.has_columns (block_of c.args.block)) in
    λ rs s. subst (λ (es : List Entry). IsSearched c.args.place (after rs (map (entry_mark c.args.from) es)) c.loop-i.last) (take_all c.loop-i.i _ past) (c.loop-i.invariant rs s)
