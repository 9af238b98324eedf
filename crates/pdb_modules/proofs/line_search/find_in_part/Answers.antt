use Rattle.std.proofs.Common.{ℕ, List, Ok, subst, ◌≡◌, ◌<◌, ◌≤◌, length, Some, ap, sym, refl, ◌∙◌, arith}
use Rattle.pdb_modules.specs.LineSearch.{begun_line}
use Rattle.pdb_modules.specs.Blocks.{block_at}
use Rattle.pdb_modules.specs.BlockViews.{block_of}
use Rattle.pdb_modules.specs.KeptRows.{subsection_of}
use Rattle.pdb_modules.proofs.BlockSearches.{lines_found, search_moves, search_goes_on, search_finds, nothing_at_fault, last_at_end}
use Rattle.pdb_modules.proofs.RisingLemmas.{none_rise}
use Rattle.pdb_modules.proofs.line_search.find_in_part.Goals as goal

pub search_block-requires-clause-rising : goal.search_block-requires-clause-rising
search_block-requires-clause-rising c =
    let i = c.loop-buffer.invariant in
    i.rising (block_of c.in-Ok.block) (subst (λ (b : List ℕ). block_at c.args.part.has_columns b c.loop-buffer.buffer.place ≡ Ok (block_of c.in-Ok.block)) i.same c.in-Ok.ensures.reads.0)

pub returns-in-Found : goal.returns-in-Found
returns-in-Found c =
    let i = c.loop-buffer.invariant in
    ap Some c.info.ensures
    ∙ sym (lines_found c.args.place (subsection_of c.args.part) (begun_line c.in-Found.begun)
    (search_finds c.args.place c.args.part.place c.args.part.has_columns c.args.part.bytes.now c.loop-buffer.buffer c.read_block.new.buffer i.same c.loop-buffer.last i.searching c.args.part.code_size c.in-Ok.block c.in-Ok.ensures.reads (begun_line c.in-Found.begun) (c.in-Found.ensures _ i.searching.searched)))

pub loop-buffer-preserved : goal.loop-buffer-preserved
loop-buffer-preserved c =
    let i = c.loop-buffer.invariant in
    record {
      same = c.in-Ok.ensures.reads.1 ∙ i.same;
      inside = (search_moves c.args.place c.args.part.place c.args.part.has_columns c.args.part.bytes.now c.loop-buffer.buffer c.read_block.new.buffer i.same c.loop-buffer.last i.searching c.in-Ok.block c.in-Ok.ensures.reads).1;
      searching = search_goes_on c.args.place c.args.part.place c.args.part.has_columns c.args.part.bytes.now c.loop-buffer.buffer c.read_block.new.buffer i.same c.loop-buffer.last i.searching c.in-Ok.block c.in-Ok.ensures.reads c.in-On.next (c.in-On.ensures _ i.searching.searched);
      rising = none_rise c.args.part.place c.args.part.has_columns c.args.part.bytes.now c.read_block.new.buffer.place;
    }

pub returns-in-Err : goal.returns-in-Err
returns-in-Err c =
    let i = c.loop-buffer.invariant in
    let differ : c.loop-buffer.buffer.place ≡ length c.loop-buffer.buffer.bytes → ⊥ = λ e. (let f = c.loop-buffer-test.ensures.1 e in cc) in
    let below : c.loop-buffer.buffer.place < length c.args.part.bytes.now = let j = i.inside in omega (arith, differ, ap length i.same) in
    sym (nothing_at_fault c.args.place c.args.part.place c.args.part.has_columns c.args.part.bytes.now c.loop-buffer.buffer c.read_block.new.buffer i.same c.loop-buffer.last i.searching c.in-Err.field-0 c.args.part.code_size below c.in-Err.ensures.reads (subsection_of c.args.part) refl refl)

pub returns : goal.returns
returns c =
    let i = c.loop-buffer.invariant in
    let ended : c.loop-buffer.buffer.place ≡ length c.loop-buffer.buffer.bytes = c.loop-buffer-test.ensures.0 refl in
    let past : length c.args.part.bytes.now ≤ c.loop-buffer.buffer.place = omega (arith, ap length i.same) in
    c.if_covers.ensures
    ∙ sym (last_at_end c.args.place c.args.part.place c.args.part.has_columns c.args.part.bytes.now c.loop-buffer.buffer c.loop-buffer.buffer i.same c.loop-buffer.last i.searching c.args.part.code_size c.wrapping_add.result c.noted.result past c.wrapping_add.ensures.section c.wrapping_add.ensures.offset c.noted.ensures (subsection_of c.args.part) refl refl)
