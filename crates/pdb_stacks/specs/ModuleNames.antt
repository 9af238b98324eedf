-- Names of modules, which tools write in several ways.
use Rattle.std.specs.Prelude.{ℕ, ◌-◌, List, codes, drop, length, map, nat_le, nat_lt, take, ◌||◌, ◌&&◌, Bool, if◌then◌else◌}
use Rattle.std.specs.Char.{is_ascii_alphanumeric, to_ascii_lowercase}
use Rattle.std.specs.Str.{bytes_eq}

abbrev pub is_word : List ℕ → List ℕ → Bool
is_word text word = bytes_eq (map to_ascii_lowercase text) (map to_ascii_lowercase word)

-- an end of names, in any case
unfoldable pub is_end : List ℕ → Bool
is_end end =
    is_word end (codes ".exe") || is_word end (codes ".dll") || is_word end (codes ".sys")
    || is_word end (codes ".ocx") || is_word end (codes ".drv") || is_word end (codes ".pdb")

-- a name without its end, unless that is the whole name
unfoldable pub stem : List ℕ → List ℕ
stem name = if nat_lt 4 (length name) && is_end (drop (length name - 4) name) then take (length name - 4) name else name

-- in lower case, and `_` (95) for what isn't a letter, a digit, or not ASCII
unfoldable pub folded : ℕ → ℕ
folded b = if is_ascii_alphanumeric b || nat_le 128 b then to_ascii_lowercase b else 95

-- two names are of one module
abbrev pub same_module : List ℕ → List ℕ → Bool
same_module a b = bytes_eq (map folded (stem a)) (map folded (stem b))
