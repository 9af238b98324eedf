use Rattle.std.proofs.Common.{take}
use Rattle.std.specs.List.{All}
use Rattle.pdb_file.specs.HeldBytes.{IsAllHeld}
use Rattle.pdb_file.proofs.source.are_held.Given as goal

-- all before this one are held
abbrev pub invariant-loop-slice : goal.invariant-loop-slice
invariant-loop-slice l = All (IsAllHeld l.held) (take l.slice-index l.slices)
