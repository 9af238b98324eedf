use Rattle.std.proofs.Common.{◌<◌, ◌≤◌, List, map, length, ap, sym, ◌∙◌, arith, ◌++◌}
use Rattle.std.proofs.lemmas.List.{take_all}
use Rattle.pdb_modules.specs.declared.line.Entry.{Entry}
use Rattle.pdb_modules.specs.Blocks.{entries_of}
use Rattle.pdb_modules.specs.BlockViews.{block_of}
use Rattle.pdb_modules.specs.Lines.{entry_mark, records}
use Rattle.pdb_modules.specs.KeptRows.{whole, after}
use Rattle.pdb_modules.proofs.PartLemmas.{entry_whole, entry_own}
use Rattle.pdb_modules.proofs.BlockLemmas.{entry_is, entries_counted}
use Rattle.pdb_modules.proofs.rows.add_entries.Goals as goal

pub loop-i-preserved : goal.loop-i-preserved
loop-i-preserved c =
    let inside : c.loop-i.i < length (entries_of c.args.has_columns (block_of c.args.block)) = omega (arith, entries_counted c.args.has_columns (block_of c.args.block)) in
    record {
      room = omega (arith, c.in_ok-add_mark.ensures.len);
      grown = omega (arith, c.in_ok-add_mark.ensures.len);
      few = omega (arith, c.in_ok-add_mark.ensures.grows);
      shown = entry_whole _ _ _ _ c.entry-entry.result c.entry-entry.result (c.entry-entry.ensures ∙ sym (entry_is _ _ _ _ c.loop-i-test.true)) c.wrapping_add.ensures.section c.wrapping_add.ensures.offset inside _ _ _ c.loop-i.invariant.shown c.in_ok-add_mark.ensures.whole;
      alone = λ done ms k was. entry_own _ _ _ _ c.entry-entry.result c.entry-entry.result (c.entry-entry.ensures ∙ sym (entry_is _ _ _ _ c.loop-i-test.true)) c.wrapping_add.ensures.section c.wrapping_add.ensures.offset inside done _ _ ms c.args.from k (c.loop-i.invariant.alone done ms k was) c.in_ok-add_mark.ensures.own;
    }

pub returns-clause-whole : goal.returns-clause-whole
returns-clause-whole c =
    let past : length (entries_of c.args.has_columns (block_of c.args.block)) ≤ c.loop-i.i = omega (arith, entries_counted c.args.has_columns (block_of c.args.block)) in
    c.loop-i.invariant.shown ∙ ap (λ (es : List Entry). after (map whole c.args.rows.now.items) (map (entry_mark c.args.place) es)) (take_all c.loop-i.i _ past)

pub returns-clause-own : goal.returns-clause-own
returns-clause-own c =
    let past : length (entries_of c.args.has_columns (block_of c.args.block)) ≤ c.loop-i.i = omega (arith, entries_counted c.args.has_columns (block_of c.args.block)) in
    λ done ms k was. c.loop-i.invariant.alone done ms k was ∙ ap (λ (es : List Entry). done ++ records (ms ++ map (entry_mark c.args.place) es)) (take_all c.loop-i.i _ past)
