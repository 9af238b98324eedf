use Rattle.std.proofs.Common.{◌≡◌, ◌++◌, map, flat_map, take}
use Rattle.pdb_resolve.specs.Frames.{displaced_text}
use Rattle.pdb_resolve.specs.KeptFrames.{shown_frame}
use Rattle.pdb_resolve.proofs.text.put_displaced_frames.Given as goal

-- the texts of the frames so far were put
abbrev pub invariant-loop-frame : goal.invariant-loop-frame
invariant-loop-frame l = l.out.items ≡ l.fn.out.items ++ flat_map displaced_text (map shown_frame (take l.frame-index l.frames))
