-- The lines of `key --path`: of a PDB, and of an image with the PDB that it names, where a store of symbols has them.
use Rattle.std.specs.Prelude.{ℕ, List, ◌++◌, codes, Option, Some, None, if◌then◌else◌}
use Rattle.pdb.specs.Keys.{key_text}
use Rattle.pdb_image.specs.Debug.{Reference}
use Rattle.pdb_image.specs.Images.{Said}
use Rattle.pdb_paths.specs.FileNames.{file_name, is_sound}
use Rattle.pdb_paths.specs.SymbolPaths.{filed}
use Rattle.tool_program.specs.OwnKeys.{own_key}

-- the path below a store of the file of a path and a key; `-` where its name names no file
unfoldable pub stored : List ℕ → List ℕ → List ℕ
stored path key = if is_sound (file_name path) then filed (file_name path) key else codes "-"

-- the key of the PDB that an image names, and its path
abbrev pub pdb_stored : Option Reference → List ℕ
pdb_stored None = codes "- -"
pdb_stored (Some r) = key_text r.guid r.age ++ codes " " ++ stored r.path (key_text r.guid r.age)

-- of an image that says this
unfoldable pub image_paths : List ℕ → Said → List ℕ
image_paths name i = own_key i.time_stamp i.size ++ codes " " ++ stored name (own_key i.time_stamp i.size) ++ codes " " ++ pdb_stored i.pdb ++ codes "\n"

-- of a PDB with this key
abbrev pub pdb_path : List ℕ → List ℕ → List ℕ
pdb_path name key = key ++ codes " " ++ stored name key ++ codes "\n"
