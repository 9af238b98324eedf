-- The number that a word is.
use Rattle.std.specs.Prelude.{ℕ, List, length, Bool, ◌&&◌, Option, Some, None, nat_lt, nat_le, if◌then◌else◌}
use Rattle.std.specs.Char.{is_ascii_digit}
use Rattle.std.specs.List.{list_all}
use Rattle.std.specs.Str.Parse.{digits_value}

-- one to ten digits
abbrev pub is_short_numeral : List ℕ → Bool
is_short_numeral word = nat_lt 0 (length word) && nat_le (length word) 10 && list_all is_ascii_digit word

-- the number that a word is: one to ten digits, of at most 4294967295
unfoldable pub number_in : List ℕ → Option ℕ
number_in word = if is_short_numeral word && nat_lt (digits_value 10 word) 4294967296 then Some (digits_value 10 word) else None

-- the number that a word is: one to ten digits, of at most 9999999999
unfoldable pub long_number_in : List ℕ → Option ℕ
long_number_in word = if is_short_numeral word then Some (digits_value 10 word) else None
