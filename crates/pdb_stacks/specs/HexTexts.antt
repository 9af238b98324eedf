-- Hex numbers in a line.
use Rattle.std.specs.Prelude.{ℕ, List, codes, length, nat_le, nat_lt, slice_range, ◌&&◌, Bool, if◌then◌else◌, Option, Some, None, option_and_then, option_map}
use Rattle.std.specs.Char.{is_ascii_hexdigit}
use Rattle.std.specs.List.{list_all}
use Rattle.std.specs.Option.{option_or}
use Rattle.std.specs.Str.Parse.{digits_value}
use Rattle.pdb_stacks.specs.LineBytes.{kind_at, run_end}
use Rattle.pdb_stacks.specs.LineTexts.{behind_text}
use Rattle.pdb_stacks.specs.declared.bytes.Kind.TheVariants.{HexDigit, JoinsHex}
use Rattle.pdb_stacks.specs.declared.hex_numbers.Hex.{Hex}

-- 1 to 16 hex digits, and nothing else
abbrev pub is_hex : List ℕ → Bool
is_hex digits = nat_lt 0 (length digits) && nat_le (length digits) 16 && list_all is_ascii_hexdigit digits

-- the number that hex digits write, which is below 2^64
unfoldable pub hex_in : List ℕ → Option ℕ
hex_in digits = if is_hex digits && nat_lt (digits_value 16 digits) 18446744073709551616 then Some (digits_value 16 digits) else None

-- of digits up to `end`, behind which stands no byte that would make them another text
abbrev pub hex_to : List ℕ → ℕ → ℕ → Option Hex
hex_to line at end = if kind_at JoinsHex line end then None else option_map (λ n. record { number = n; end = end }) (hex_in (slice_range line at end))

-- the hex number at an offset: all hex digits from there on
unfoldable pub hex_at : List ℕ → ℕ → Option Hex
hex_at line at = hex_to line at (run_end HexDigit line at)

-- behind a text that stands at an offset
unfoldable pub hex_behind : List ℕ → ℕ → List ℕ → Option Hex
hex_behind line at text = option_and_then (hex_at line) (behind_text line at text)

-- an offset from a module or a symbol
unfoldable pub offset_at : List ℕ → ℕ → Option Hex
offset_at line at = option_or (hex_behind line at (codes "+0x")) (hex_behind line at (codes " + 0x"))
