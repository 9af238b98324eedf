use Rattle.std.proofs.Common.{sym, ap}
use Rattle.pdb.specs.Answers.{string_table_in}
use Rattle.pdb_places.specs.AsIfEmpty.{if_read}
use Rattle.pdb_resolve.proofs.Continuing.{asked_more}
use Rattle.pdb_resolve.proofs.Asking.{told, asked_then, room_then}
use Rattle.pdb_resolve.proofs.tables.strings_asked.Goals as goal

pub returns-clause-asked : goal.returns-clause-asked
returns-clause-asked g c =
    asked_more _ _ _ _ _ (λ t. t) (ap (λ file. if_read (string_table_in file)) (sym c.string_table.ensures.continues.file))
    (asked_then _ c.keep.new.self c.keep.result _ (λ t. c.keep.ensures.is _ (told _ _ _ _ (c.string_table.ensures.answer t))) c.keep.ensures.kept c.keep.ensures.asked c.keep.ensures.again (room_then c.args.part.now c.keep.new.self c.keep.result (c.requires.room c.if-part.false) c.keep.ensures.rooms))
