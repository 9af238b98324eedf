use Rattle.std.proofs.Common.{◌≡◌, flat_map, map, take}
use Rattle.pdb_paths.specs.Folders.{folders_in}
use Rattle.pdb_paths.proofs.folders.symbol_folders.Given as goal

-- the folders of the pieces so far were put
abbrev pub invariant-loop-piece : goal.invariant-loop-piece
invariant-loop-piece l = map (λ f. f.now) l.folders.items ≡ flat_map folders_in (map (λ piece. piece.now) (take l.piece-index l.piece-items))
