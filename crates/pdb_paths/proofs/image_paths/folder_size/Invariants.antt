use Rattle.std.proofs.Common.{◌≡◌, ◌≤◌, drop}
use Rattle.pdb_paths.specs.ImagePaths.{folder_size}
use Rattle.pdb_paths.proofs.FolderSize.{size_by}
use Rattle.pdb_paths.proofs.image_paths.folder_size.Given as goal

-- the last slash is in what is left, or is the last one so far
abbrev pub invariant-loop-index : goal.invariant-loop-index
invariant-loop-index l = record {
  is : folder_size l.path ≡ size_by (drop l.index l.path) l.index l.size;
  within : l.size ≤ l.index;
}
