-- Folders of symbol files, as the variable `_NT_SYMBOL_PATH` names them.
use Rattle.std.specs.Prelude.{ℕ, List, [], ◌∷◌, codes, drop, filter, flat_map, length, nat_eq, ◌==◌, ◌||◌, ◌&&◌, not, Bool, false, if◌then◌else◌}
use Rattle.std.specs.List.{slice_split, starts_with}
use Rattle.std.specs.Str.{bytes_eq}
use Rattle.pdb_paths.specs.FileNames.{lower}
use Rattle.pdb_paths.specs.declared.folders.Front.{Front}
use Rattle.pdb_paths.specs.declared.folders.Front.TheVariants.{Folders, Library, Other}

-- the parts of a text that this byte cuts
abbrev pub cut_at : ℕ → List ℕ → List (List ℕ)
cut_at byte text = slice_split (λ b. b == byte) text

-- `://` stands somewhere in a text: it is the address of a server
abbrev pub has_scheme : List ℕ → Bool
has_scheme [] = false
has_scheme (b ∷ bs) = starts_with nat_eq (b ∷ bs) (codes "://") || has_scheme bs

abbrev pub is_folder : List ℕ → Bool
is_folder part = not (nat_eq (length part) 0) && not (has_scheme part)

-- a word, in any case
abbrev pub is_word : List ℕ → List ℕ → Bool
is_word part word = bytes_eq (lower part) (lower word)

-- what a first part says of those behind it: `symsrv` names a library before the folders
abbrev pub front_of : List ℕ → Front
front_of first =
    if is_word first (codes "srv") || is_word first (codes "cache") then Folders
    else if is_word first (codes "symsrv") then Library
    else Other

abbrev pub behind_front : Front → List (List ℕ) → List (List ℕ)
behind_front Folders parts = parts
behind_front Library parts = drop 1 parts
behind_front Other parts = []

abbrev pub behind : List ℕ → List (List ℕ) → List (List ℕ)
behind first parts = behind_front (front_of first) parts

-- the parts of a piece that may be folders
abbrev pub named : List (List ℕ) → List (List ℕ)
named [] = []
named (part ∷ []) = part ∷ []
named (first ∷ part ∷ parts) = behind first (part ∷ parts)

-- `*` is 42, and `;` is 59
unfoldable pub folders_in : List ℕ → List (List ℕ)
folders_in piece = filter is_folder (named (cut_at 42 piece))

-- the folders that a value of the variable names, in order
unfoldable pub symbol_folders : List ℕ → List (List ℕ)
symbol_folders value = flat_map folders_in (cut_at 59 value)
