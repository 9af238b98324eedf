use Rattle.std.proofs.Common.{◌≡◌, ◌++◌, map, take}
use Rattle.pdb_paths.specs.ImagePaths.{folder_view, in_folders}
use Rattle.pdb_paths.proofs.image_paths.push_in_folders.Given as goal

-- the paths in the folders so far were put
abbrev pub invariant-loop-folder : goal.invariant-loop-folder
invariant-loop-folder l = map (λ p. p.items) l.paths.items ≡ map (λ p. p.items) l.fn.paths.items ++ in_folders (map folder_view (take l.folder-index l.folders)) l.name l.key
