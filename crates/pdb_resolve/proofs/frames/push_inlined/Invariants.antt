use Rattle.std.proofs.Common.{◌≡◌, true, ◌++◌, length, map, reverse}
use Rattle.std.specs.Prelude.{option_copied}
use Rattle.pdb.specs.Source.{Continues}
use Rattle.pdb_code.specs.ModuleCode.{program_in}
use Rattle.pdb_resolve.specs.Frames.{inlined_frame}
use Rattle.pdb_code.specs.Kept.{shown_call}
use Rattle.pdb_resolve.specs.AcrossModules.{global_id_in}
use Rattle.pdb_resolve.specs.KeptCrossings.{AreCrossingsOf}
use Rattle.pdb_resolve.specs.KeptFrames.{shown_frame, names_of, IsNamedIn}
use Rattle.pdb_resolve.proofs.frames.push_inlined.Given as goal

-- the frames so far, and those of the calls that are left, are all
abbrev pub invariant-loop-call : goal.invariant-loop-call
invariant-loop-call g l = record {
  continues : Continues l.fn.pdb l.pdb;
  kept : AreCrossingsOf l.pdb l.crossings;
  frames : l.pdb.told ≡ true →
      map shown_frame l.frames.items ++ map (inlined_frame (names_of l.fn.names (option_copied l.fn.strings)) (global_id_in l.fn.pdb.file l.fn.code.code.now) (program_in l.fn.code.code.now)) (reverse (map shown_call l.left))
      ≡ map shown_frame l.fn.frames.items ++ map (inlined_frame (names_of l.fn.names (option_copied l.fn.strings)) (global_id_in l.fn.pdb.file l.fn.code.code.now) (program_in l.fn.code.code.now)) (reverse (map shown_call l.fn.calls));
  named : IsNamedIn (option_copied l.fn.strings) (program_in l.fn.code.code.now) l.last;
}

abbrev pub decreases-loop-call : goal.decreases-loop-call
decreases-loop-call g l = length l.left
