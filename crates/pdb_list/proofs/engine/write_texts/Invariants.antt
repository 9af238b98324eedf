use Rattle.std.proofs.Common.{◌≡◌, false, true, take, flat_map}
use Rattle.std.specs.Io.KnownBytes.{Appends}
use Rattle.pdb.specs.Source.{Continues, IsKnown}
use Rattle.pdb_list.specs.Chosen.{KeptOf}
use Rattle.pdb_list.specs.CommandTexts.{command_text}
use Rattle.pdb_list.proofs.engine.write_texts.Given as goal

-- the file is the same, and so is the list that is kept; the texts of the commands so far were written
abbrev pub invariant-loop-command : goal.invariant-loop-command
invariant-loop-command g l =
    let start = l.fn.pdb in
    record {
      continues : Continues start l.pdb;
      kept : KeptOf start.file l.fn.kept → KeptOf start.file l.kept;
      wrote : IsKnown start → (l.fn.stops_unread ≡ false → start.steady ≡ true) → KeptOf start.file l.fn.kept → Appends (g.W.Write.contents l.fn.out) (g.W.Write.contents l.out) (flat_map (command_text start.file) (take l.command-index l.commands));
    }
