use Rattle.std.proofs.Common.{◌≤◌, rules, arith, ap, length}
use Rattle.pdb_base.specs.Cursor.{Cursor}
use Rattle.pdb_base.proofs.Readings.{read_moves}
use Rattle.pdb_modules.specs.Files.{entry_at, entry_length}
use Rattle.pdb_modules.specs.FileViews.{bytes_of_entry}
use Rattle.pdb_modules.proofs.FileLemmas.{entries_within, file_item, file_fault, file_end}
use Rattle.pdb_modules.proofs.files.FileIteratorFallibleIterator.next.Goals as goal

pub returns-then-is_empty-clause-yields : goal.returns-then-is_empty-clause-yields
returns-then-is_empty-clause-yields c = let buffer = c.args.self.now.buffer in file_end buffer buffer (search rules)

pub invariant_of-self : goal.invariant_of-self
invariant_of-self c =
    let before = c.args.self.now in
    let moves = read_moves entry_at entry_length entries_within bytes_of_entry before.buffer c.read_file_record.new.buffer c.in-Ok.entry c.in-Ok.ensures in
    let same = ap length c.in-Ok.ensures.1 in
    record {
      small = omega (arith, same, before.small);
      inside = moves.1;
      going = λ _. omega (arith, moves, before.going, c.tick.ensures);
      counted = omega (arith, moves, before.going, c.tick.ensures);
    }

pub returns-in-Ok-clause-yields : goal.returns-in-Ok-clause-yields
returns-in-Ok-clause-yields c = file_item c.args.self.now.buffer c.read_file_record.new.buffer c.in-Ok.entry _ c.file.ensures c.in-Ok.ensures

pub returns-in-Err-clause-yields : goal.returns-in-Err-clause-yields
returns-in-Err-clause-yields c =
    let before = c.args.self.now in
    let small = ap length c.in-Err.ensures.1 in
    let same = ap (λ (x : Cursor). x.bytes) c.seek.ensures in
    let place = ap (λ (x : Cursor). x.place) c.seek.ensures in
    let past : length c.seek.new.self.bytes ≤ c.seek.new.self.place = rw (same, place) (omega (arith, small, before.small)) in
    file_fault before.buffer c.read_file_record.new.buffer c.in-Err.error c.seek.new.self.bytes c.seek.new.self.place (search rules) c.in-Err.ensures same past
