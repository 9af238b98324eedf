use Rattle.std.proofs.Common.{◌≡◌, ◌++◌, filter, map, take}
use Rattle.pdb_paths.specs.Folders.{is_folder}
use Rattle.pdb_paths.proofs.folders.push_folders.Given as goal

-- the folders among the parts so far were put
abbrev pub invariant-loop-part : goal.invariant-loop-part
invariant-loop-part l = map (λ f. f.now) l.folders.items ≡ map (λ f. f.now) l.fn.folders.items ++ filter is_folder (map (λ part. part.now) (take l.part-index l.part-items))
