-- Names of Rust in the form of the Itanium ABI: their last part is a hash, and what C++ can't write is escaped.
use Rattle.std.specs.Prelude.{ℕ, ◌+◌, ◌-◌, ◌*◌, List, [], ◌∷◌, ◌++◌, length, take, drop, Bool, ◌&&◌, ◌||◌, Option, Some, None, option_map, nat_eq, nat_lt, nat_le, ◌==◌, if◌then◌else◌, codes, position, slice_index}
use Rattle.std.specs.Char.{is_ascii_digit}
use Rattle.std.specs.List.{list_all, slice_get, starts_with}
use Rattle.std.specs.Cmp.Lexicographic.{pointwise}
use Rattle.pdb_names.specs.Pieces.{each, qualified, until}

abbrev pub is_hex : ℕ → Bool
is_hex b = is_ascii_digit b || (nat_le 97 b && nat_le b 102)

-- a hash: h and 16 hex digits
abbrev pub is_hash : List ℕ → Bool
is_hash t = (length t == 17 && starts_with nat_eq t (codes "h")) && list_all is_hex (drop 1 t)

abbrev pub is_last_hash : Option (List ℕ) → Bool
is_last_hash None = nat_lt 1 0
is_last_hash (Some t) = is_hash t

-- several parts, of which the last is a hash
abbrev pub is_hashed : List (List ℕ) → Bool
is_hashed ts = nat_lt 1 (length ts) && is_last_hash (slice_get ts (length ts - 1))

abbrev pub hex_value : ℕ → ℕ
hex_value b = if nat_le 97 b then b - 87 else b - 48

-- the byte of two hex digits, from a blank to ~
abbrev pub shown_byte : ℕ → Option ℕ
shown_byte b = if nat_le 0x20 b && nat_le b 0x7e then Some b else None

-- the byte that u and two hex digits are for
abbrev pub byte_of : List ℕ → Option ℕ
byte_of w =
    if (length w == 3 && starts_with nat_eq w (codes "u")) && list_all is_hex (drop 1 w)
    then shown_byte (hex_value (slice_index w 1) * 16 + hex_value (slice_index w 2))
    else None

-- the byte that stands between dollar signs by a word
unfoldable pub escaped : List ℕ → Option ℕ
escaped w =
    if pointwise nat_eq w (codes "SP") then Some 64
    else if pointwise nat_eq w (codes "BP") then Some 42
    else if pointwise nat_eq w (codes "RF") then Some 38
    else if pointwise nat_eq w (codes "LT") then Some 60
    else if pointwise nat_eq w (codes "GT") then Some 62
    else if pointwise nat_eq w (codes "LP") then Some 40
    else if pointwise nat_eq w (codes "RP") then Some 41
    else if pointwise nat_eq w (codes "C") then Some 44
    else byte_of w

-- what is read of a part, and what is left of it
pub record Decoded : Type 0 where
  pub text : List ℕ
  pub rest : List ℕ

abbrev pub decoded : List ℕ → List ℕ → Decoded
decoded text rest = record { text = text; rest = rest }

-- a dollar sign, a word of n bytes, and a dollar sign
unfoldable pub dollars : Option ℕ → Decoded → Option Decoded
dollars None d = None
dollars (Some n) d = option_map (λ b. decoded (d.text ++ b ∷ []) (drop (n + 2) d.rest)) (escaped (take n (drop 1 d.rest)))

-- one letter more: `..` is for `::`, and a word between dollar signs for one byte
unfoldable pub letter : Decoded → Option Decoded
letter d =
    if starts_with nat_eq d.rest (codes "..") then Some (decoded (d.text ++ codes "::") (drop 2 d.rest))
    else if starts_with nat_eq d.rest (codes "$") then dollars (position (λ x. x == 36) (drop 1 d.rest)) d
    else Some (decoded (d.text ++ take 1 d.rest) (drop 1 d.rest))

abbrev pub is_read : Decoded → Bool
is_read d = length d.rest == 0

unfoldable pub letters : Decoded → Option Decoded
letters d = until is_read letter (length d.rest + 1) d

-- a part without the _ that stands before an escape
abbrev pub unguarded : List ℕ → List ℕ
unguarded t = if starts_with nat_eq t (codes "_$") then drop 1 t else t

-- the text of a part
unfoldable pub rust_part : List ℕ → Option (List ℕ)
rust_part t = option_map (λ d. d.text) (letters (decoded [] (unguarded t)))

abbrev pub all_but_last : List (List ℕ) → List (List ℕ)
all_but_last ts = take (length ts - 1) ts

-- the name that parts spell, the last of which is a hash
unfoldable pub rust_name : List (List ℕ) → Option (List ℕ)
rust_name ts = option_map qualified (each rust_part (all_but_last ts))
