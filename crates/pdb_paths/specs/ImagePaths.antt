-- Where the PDB of an image may be.
use Rattle.std.specs.Prelude.{ℕ, ◌+◌, ◌-◌, List, [], ◌∷◌, ◌++◌, codes, filter, flat_map, length, map, nat_eq, take, ◌==◌, ◌&&◌, not, Bool, if◌then◌else◌}
use Rattle.std.specs.List.{list_any, starts_with}
use Rattle.std.specs.Str.{bytes_eq, is_utf8}
use Rattle.pdb_paths.specs.FileNames.{file_name, is_sound, spellings}
use Rattle.pdb_paths.specs.SymbolPaths.{candidates}
use Rattle.pdb_paths.specs.declared.image_paths.SymbolFolder.{SymbolFolder}

-- a folder of symbols, and whether it has folders by the first two bytes of names
pub record FolderOf : Type 0 where
  pub has_fronts : Bool
  pub path : List ℕ

abbrev pub folder_view : SymbolFolder → FolderOf
folder_view f = record { has_fronts = f.has_fronts; path = f.path.now }

abbrev pub is_slash : ℕ → Bool
is_slash b = b == 47

-- how many bytes of a path stand up to its last slash, which is one of them
unfoldable pub folder_size : List ℕ → ℕ
folder_size [] = 0
folder_size (b ∷ bs) = if list_any is_slash (b ∷ bs) then 1 + folder_size bs else 0

-- the files of these names beside a file
abbrev pub beside : List ℕ → List (List ℕ) → List (List ℕ)
beside path names = map (λ name. take (folder_size path) path ++ name) names

-- in the folders of symbols, in order
abbrev pub in_folders : List FolderOf → List ℕ → List ℕ → List (List ℕ)
in_folders folders name key = flat_map (λ f. candidates f.has_fronts f.path name key) folders

-- the path in the image itself, where it is one of this system
abbrev pub own_path : List ℕ → List (List ℕ)
own_path path = if starts_with nat_eq path (codes "/") && is_utf8 path then path ∷ [] else []

-- each of some texts once, where it first stands
unfoldable pub once : List (List ℕ) → List (List ℕ)
once [] = []
once (text ∷ texts) = text ∷ filter (λ other. not (bytes_eq other text)) (once texts)

-- a text is one of these
abbrev pub is_among : List (List ℕ) → List ℕ → Bool
is_among texts text = list_any (λ other. bytes_eq other text) texts

-- these texts with one more, unless it is there
abbrev pub with_new : List (List ℕ) → List ℕ → List (List ℕ)
with_new texts text = if is_among texts text then texts else texts ++ text ∷ []

-- the paths at which the PDB of an image may be, which has this path and this key; of a name that names no file there is none
unfoldable pub pdb_paths : List ℕ → List FolderOf → List ℕ → List ℕ → List (List ℕ)
pdb_paths image folders path key =
    if is_sound (file_name path) then once (beside image (spellings (file_name path)) ++ in_folders folders (file_name path) key ++ own_path path)
    else []

-- the name of a file that is compressed, as stores have it: `_` in the place of the last byte
abbrev pub compressed : List ℕ → List ℕ
compressed path = take (length path - 1) path ++ codes "_"
