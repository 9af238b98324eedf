-- Where a store has files, and the lines of `store`.
use Rattle.std.specs.Prelude.{ℕ, List, ◌++◌, codes, Option, Some, None, if◌then◌else◌}
use Rattle.pdb_paths.specs.FileNames.{file_name, is_sound, within}
use Rattle.pdb_paths.specs.SymbolPaths.{filed}
use Rattle.pdb_text.specs.OneLine.{one_line}

-- the path in a folder of symbols at which the file of a path and a key is stored; none where its name is that of no file
unfoldable pub store_path : List ℕ → List ℕ → List ℕ → Option (List ℕ)
store_path folder path key = if is_sound (file_name path) then Some (within folder ++ filed (file_name path) key) else None

-- the line of a file that is stored at a path
abbrev pub store_line : List ℕ → List ℕ → List ℕ
store_line word path = word ++ codes " " ++ one_line path ++ codes "\n"
