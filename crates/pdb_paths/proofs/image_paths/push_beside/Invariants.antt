use Rattle.std.proofs.Common.{◌≡◌, ◌++◌, map, take}
use Rattle.pdb_paths.specs.ImagePaths.{beside, folder_size}
use Rattle.pdb_paths.proofs.image_paths.push_beside.Given as goal

-- the paths of the names so far were put
abbrev pub invariant-loop-name : goal.invariant-loop-name
invariant-loop-name l = record {
  puts : map (λ p. p.items) l.paths.items ≡ map (λ p. p.items) l.fn.paths.items ++ beside l.file (map (λ n. n.items) (take l.name-index l.names));
  folder : l.folder ≡ take (folder_size l.file) l.file;
}
