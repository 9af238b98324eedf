-- Where the symbol file of a name and a key may be.
use Rattle.std.specs.Prelude.{ℕ, List, [], ◌++◌, map, flat_map, take, codes, Bool, true, false, if◌then◌else◌, Vec, vec_items}
use Rattle.pdb_paths.specs.FileNames.{is_sound, spellings, within}

-- the bytes of each of some texts
abbrev pub texts : {Z : Type 0} → List (Vec ℕ Z) → List (List ℕ)
texts vs = map vec_items vs

-- below a store a file has a folder of its name, and in that one of its key
unfoldable pub filed : List ℕ → List ℕ → List ℕ
filed name key = name ++ codes "/" ++ key ++ codes "/" ++ name

-- of a name, under each key
abbrev pub keyed : List ℕ → List (List ℕ) → List ℕ → List (List ℕ)
keyed folder keys name = map (λ key. within folder ++ filed name key) keys

abbrev pub filed_in : List ℕ → List (List ℕ) → List (List ℕ) → List (List ℕ)
filed_in folder names keys = flat_map (keyed folder keys) names

-- a large store has folders by the first two bytes of names
abbrev pub fronts_of : List ℕ → List (List ℕ) → List ℕ → List (List ℕ)
fronts_of folder keys name = if is_sound (take 2 name) then keyed (within folder ++ take 2 name) keys name else []

abbrev pub fronts_in : Bool → List ℕ → List (List ℕ) → List (List ℕ) → List (List ℕ)
fronts_in true folder names keys = flat_map (fronts_of folder keys) names
fronts_in false folder names keys = []

-- and the files of the folder itself
abbrev pub files_in : List ℕ → List (List ℕ) → List (List ℕ)
files_in folder names = map (λ name. within folder ++ name) names

abbrev pub all_in : Bool → List ℕ → List (List ℕ) → List (List ℕ) → List (List ℕ)
all_in has_fronts folder names keys = filed_in folder names keys ++ fronts_in has_fronts folder names keys ++ files_in folder names

-- the paths in a folder of symbols, in the order in which they are tried; of a name that names no file there is none
unfoldable pub candidates : Bool → List ℕ → List ℕ → List ℕ → List (List ℕ)
candidates has_fronts folder name key = if is_sound name then all_in has_fronts folder (spellings name) (spellings key) else []
