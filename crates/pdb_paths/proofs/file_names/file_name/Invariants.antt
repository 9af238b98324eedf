use Rattle.std.proofs.Common.{◌≡◌, ◌≤◌, drop}
use Rattle.pdb_paths.specs.FileNames.{file_name}
use Rattle.pdb_paths.proofs.FileNames.{behind}
use Rattle.pdb_paths.proofs.file_names.file_name.Given as goal

-- the name is that in what is left, or what stands behind the last separator so far
abbrev pub invariant-loop-index : goal.invariant-loop-index
invariant-loop-index l = record {
  named : file_name l.path ≡ behind (drop l.index l.path) (drop l.start l.path);
  within : l.start ≤ l.index;
}
