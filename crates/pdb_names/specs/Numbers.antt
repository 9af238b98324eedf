-- Numbers among the arguments of a template.
use Rattle.std.specs.Prelude.{ℕ, ◌+◌, ◌-◌, ◌*◌, ◌&&◌, Bool, List, [], ◌∷◌, ◌++◌, length, drop, fold, Option, Some, None, option_map, codes, nat_eq, nat_lt, nat_le, if◌then◌else◌}
use Rattle.std.specs.Char.{is_ascii_digit}
use Rattle.std.specs.Fmt.{decimal}
use Rattle.std.specs.List.{list_all, starts_with}
use Rattle.pdb_names.specs.KeptNames.{Word, word, word_of}
use Rattle.pdb_names.specs.Pieces.{◌>>=◌}

-- A is the hex digit 0, P is f
abbrev pub is_letter : ℕ → Bool
is_letter b = nat_le 65 b && nat_le b 80

abbrev pub with_letter : ℕ → ℕ → ℕ
with_letter n b = n * 16 + (b - 65)

-- the number of hex digits from A to P
abbrev pub hex_number : List ℕ → ℕ
hex_number s = fold with_letter 0 s

-- a number, and the bytes behind it
pub record Number : Type 0 where
  pub value : ℕ
  pub rest : List ℕ

abbrev pub number : ℕ → List ℕ → Number
number value rest = record { value = value; rest = rest }

-- 1 to 16 letters up to an @
unfoldable pub lettered : Word → Option Number
lettered w =
    if (nat_lt 0 (length w.bytes) && nat_le (length w.bytes) 16) && list_all is_letter w.bytes then Some (number (hex_number w.bytes) w.rest)
    else None

-- a digit is one less than its number
unfoldable pub unsigned : List ℕ → Option Number
unsigned [] = None
unsigned (b ∷ s) = if is_ascii_digit b then Some (number (b - 48 + 1) s) else (word (b ∷ s) >>= lettered)

-- in decimal behind a sign
abbrev pub shown : List ℕ → Number → Word
shown sign n = word_of (sign ++ decimal n.value) n.rest

-- a number in decimal; a question mark stands for its sign
unfoldable pub number_at : List ℕ → Option Word
number_at s =
    if starts_with nat_eq s (codes "?") then option_map (shown (codes "-")) (unsigned (drop 1 s))
    else option_map (shown []) (unsigned s)
