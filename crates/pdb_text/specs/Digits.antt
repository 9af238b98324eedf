-- Numbers as text.
use Rattle.std.specs.Prelude.{ℕ, zero, suc, ◌+◌, ◌*◌, ◌/◌, ◌%◌, ◌^◌, List, [], ◌∷◌, nat_lt, if◌then◌else◌}

-- a digit in base 16, in lower case
abbrev pub hex_digit : ℕ → ℕ
hex_digit d = if nat_lt d 10 then 48 + d else 87 + d

-- the last digits of a number in base 16, as many as the first number says, with zeros
unfoldable pub hex : ℕ → ℕ → List ℕ
hex zero n = []
hex (suc k) n = hex_digit (n / 2 ^ (4 * k) % 16) ∷ hex k n

-- the four digits in base 10 of a number below 10000
abbrev pub four_digits : ℕ → List ℕ
four_digits n = (48 + n / 100 / 10) ∷ (48 + n / 100 % 10) ∷ (48 + n % 100 / 10) ∷ (48 + n % 100 % 10) ∷ []

-- how many digits in base 16 a number below 2^32 has
abbrev pub hex_length : ℕ → ℕ
hex_length n =
    if nat_lt n 0x10 then 1
    else if nat_lt n 0x100 then 2
    else if nat_lt n 0x1000 then 3
    else if nat_lt n 0x10000 then 4
    else if nat_lt n 0x100000 then 5
    else if nat_lt n 0x1000000 then 6
    else if nat_lt n 0x10000000 then 7
    else 8

-- its digits, without zeros in front
unfoldable pub short_hex : ℕ → List ℕ
short_hex n = hex (hex_length n) n
