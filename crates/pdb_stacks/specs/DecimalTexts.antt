-- Decimal numbers in a line.
use Rattle.std.specs.Prelude.{ℕ, List, length, nat_le, nat_lt, ◌&&◌, Bool, if◌then◌else◌, Option, Some, None}
use Rattle.std.specs.Char.{is_ascii_digit}
use Rattle.std.specs.List.{list_all}
use Rattle.std.specs.Str.Parse.{digits_value}

-- 1 to 10 digits, and nothing else
abbrev pub is_decimal : List ℕ → Bool
is_decimal digits = nat_lt 0 (length digits) && nat_le (length digits) 10 && list_all is_ascii_digit digits

-- the number that they write, where it is below 2^32
unfoldable pub decimal_in : List ℕ → Option ℕ
decimal_in digits = if is_decimal digits && nat_lt (digits_value 10 digits) 4294967296 then Some (digits_value 10 digits) else None
