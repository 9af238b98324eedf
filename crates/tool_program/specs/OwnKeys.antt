-- The keys under which symbol servers store images.
use Rattle.std.specs.Prelude.{ℕ, ◌/◌, ◌%◌, List, [], ◌∷◌, ◌++◌, flat_map, false}
use Rattle.std.specs.Fmt.{digits}
use Rattle.pdb.specs.Keys.{byte_text}

-- an image's own key: its time stamp in eight upper hex digits, and its size in lower ones
unfoldable pub own_key : ℕ → ℕ → List ℕ
own_key stamp size = flat_map byte_text (stamp / 16777216 ∷ stamp / 65536 % 256 ∷ stamp / 256 % 256 ∷ stamp % 256 ∷ []) ++ digits 16 false size
