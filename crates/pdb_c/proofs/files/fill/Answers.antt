use Rattle.std.proofs.Common.{◌≡◌, ◌<◌, ◌≤◌, length, refl, ap, sym, ◌∙◌, arith}
use Rattle.pdb.specs.Files.{entry_at, entry_length, entries_from}
use Rattle.pdb.specs.FileViews.{bytes_of_entry}
use Rattle.pdb_modules.proofs.FileLemmas.{entries_within}
use Rattle.pdb_modules.proofs.Turns.{turn_moves}
use Rattle.pdb_c.specs.FileRows.{file_row, file_told}
use Rattle.pdb_c.proofs.FileSteps.{entry_place, file_follows, listed_at_fault, listed_at_end}
use Rattle.pdb_c.proofs.ListSteps.{item_next, counted_next}
use Rattle.pdb_c.proofs.files.fill.Goals as goal

pub loop-buffer-preserved : goal.loop-buffer-preserved
loop-buffer-preserved c =
    let so_far = c.loop-buffer.invariant in
    let b = c.args.checksums.now in
    let read = c.read_file_record.new.buffer in
    let x = bytes_of_entry c.in-Ok.record in
    let moves = turn_moves entry_at entry_length entries_within bytes_of_entry b c.loop-buffer.buffer read so_far.same c.in-Ok.record c.in-Ok.ensures in
    let follows = file_follows b c.loop-buffer.buffer read so_far.same c.in-Ok.record c.in-Ok.ensures in
    let old = (entries_from b c.loop-buffer.buffer.place).items in
    let new = (entries_from b read.place).items in
    record {
      same = c.in-Ok.ensures.1 ∙ so_far.same;
      inside = moves.1;
      few = omega (arith, moves, so_far.few);
      told = item_next file_row file_told c.loop-buffer.n c.shown.result x old new c.loop-buffer.records c.put_row.new.room _ follows.0 c.shown.ensures c.put_row.ensures so_far.told;
      counted = counted_next c.loop-buffer.n x old new _ follows.0 so_far.counted;
      fault = sym follows.1 ∙ so_far.fault;
      room = c.put_row.auto.room ∙ so_far.room;
    }

pub returns-in-Err : goal.returns-in-Err
returns-in-Err c =
    let so_far = c.loop-buffer.invariant in
    let differ : c.loop-buffer.buffer.place ≡ length c.loop-buffer.buffer.bytes → ⊥ = λ e. (let f = c.loop-buffer-test.ensures.1 e in cc) in
    let below : c.loop-buffer.buffer.place < length c.args.checksums.now = let i = so_far.inside in omega (arith, differ, ap length so_far.same) in
    listed_at_fault c.args.checksums.now c.loop-buffer.buffer so_far.same c.loop-buffer.n _ _ _ so_far.told so_far.counted so_far.fault so_far.room c.read_file_record.new.buffer c.in-Err.e below c.in-Err.ensures c.list_code.ensures

pub returns : goal.returns
returns c =
    let so_far = c.loop-buffer.invariant in
    let ended : c.loop-buffer.buffer.place ≡ length c.loop-buffer.buffer.bytes = c.loop-buffer-test.ensures.0 refl in
    let past : length c.args.checksums.now ≤ c.loop-buffer.buffer.place = omega (arith, ap length so_far.same) in
    listed_at_end c.args.checksums.now c.loop-buffer.buffer so_far.same c.loop-buffer.n _ _ _ so_far.told so_far.counted so_far.fault so_far.room past c.list_code-2.ensures

-- a record begins within the checksums
pub shown-requires : goal.shown-requires
shown-requires c =
    let so_far = c.loop-buffer.invariant in
    let place = entry_place c.loop-buffer.buffer.bytes c.loop-buffer.buffer.place (bytes_of_entry c.in-Ok.record) c.in-Ok.ensures.0 in
    record { place = omega (arith, place, so_far.inside, c.requires.size) }
