use Rattle.std.proofs.Common.{sym, ap}
use Rattle.std.specs.Prelude.{None}
use Rattle.pdb.specs.Container.{stream_of}
use Rattle.pdb_places.specs.AsIfEmpty.{if_read}
use Rattle.pdb_resolve.proofs.Continuing.{asked_more}
use Rattle.pdb_resolve.proofs.Asking.{told, asked_then, room_then}
use Rattle.pdb_resolve.proofs.name_tables.ids_asked.Goals as goal

pub returns-clause-asked : goal.returns-clause-asked
returns-clause-asked g c =
    asked_more _ _ _ _ _ (λ t. t) (ap (λ file. if_read (stream_of file 4 None)) (sym c.id_information.ensures.continues.file))
    (asked_then _ c.keep.new.self c.keep.result _ (λ t. c.keep.ensures.is _ (told _ _ _ _ (c.id_information.ensures.answer t))) c.keep.ensures.kept c.keep.ensures.asked c.keep.ensures.again (room_then c.args.part.now c.keep.new.self c.keep.result (c.requires.room c.if-part.false) c.keep.ensures.rooms))
