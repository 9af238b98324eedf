-- Names of files, and folders, in paths.
use Rattle.std.specs.Prelude.{ℕ, List, [], ◌∷◌, ◌++◌, map, codes, length, nat_eq, nat_lt, ◌==◌, ◌||◌, ◌&&◌, not, Bool, if◌then◌else◌}
use Rattle.std.specs.Char.{to_ascii_lowercase}
use Rattle.std.specs.List.{ends_with, list_all, list_any}
use Rattle.std.specs.Str.{bytes_eq, is_utf8}

-- a byte that ends a folder's name: images are made on Windows, and elsewhere
abbrev pub is_separator : ℕ → Bool
is_separator b = b == 47 || b == 92

-- what stands behind the last separator of a path
unfoldable pub file_name : List ℕ → List ℕ
file_name [] = []
file_name (b ∷ bs) = if list_any is_separator (b ∷ bs) then file_name bs else b ∷ bs

-- a byte that the name of a file may have
abbrev pub is_name_byte : ℕ → Bool
is_name_byte b = not (nat_lt b 32) && not (is_separator b)

-- no name, and the names of a folder itself and of the one above it
abbrev pub is_folder_word : List ℕ → Bool
is_folder_word name = nat_eq (length name) 0 || bytes_eq name (codes ".") || bytes_eq name (codes "..")

-- a name that names a file of a folder
unfoldable pub is_sound : List ℕ → Bool
is_sound name = not (is_folder_word name) && list_all is_name_byte name && is_utf8 name

abbrev pub lower : List ℕ → List ℕ
lower text = map to_ascii_lowercase text

-- a text, and the same in lower letters where that is another one
abbrev pub spellings : List ℕ → List (List ℕ)
spellings text = if bytes_eq (lower text) text then text ∷ [] else text ∷ lower text ∷ []

-- a folder with the slash behind which its files stand; without a name it is the current one
unfoldable pub within : List ℕ → List ℕ
within folder = if nat_eq (length folder) 0 || ends_with nat_eq folder (codes "/") then folder else folder ++ codes "/"
