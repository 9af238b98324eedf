use Rattle.std.proofs.Common.{sym, ap}
use Rattle.pdb.specs.Answers.{global_symbols_in}
use Rattle.pdb_places.specs.AsIfEmpty.{if_read}
use Rattle.pdb_resolve.proofs.Continuing.{asked_more}
use Rattle.pdb_resolve.proofs.Asking.{told, asked_then, room_then}
use Rattle.pdb_resolve.proofs.global_names.globals_asked.Goals as goal

pub returns-clause-asked : goal.returns-clause-asked
returns-clause-asked g c =
    asked_more _ _ _ _ _ (λ t. t) (ap (λ file. if_read (global_symbols_in file)) (sym c.global_symbols.ensures.continues.file))
    (asked_then _ c.keep.new.self c.keep.result _ (λ t. c.keep.ensures.is _ (told _ _ _ _ (c.global_symbols.ensures.answer t))) c.keep.ensures.kept c.keep.ensures.asked c.keep.ensures.again (room_then c.args.part.now c.keep.new.self c.keep.result (c.requires.room c.if-part.false) c.keep.ensures.rooms))
