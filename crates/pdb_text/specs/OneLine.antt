-- Bytes of names on one line.
use Rattle.std.specs.Prelude.{ℕ, List, ◌++◌, length, get_or, take, map, Bool, ◌||◌, ◌&&◌, ◌==◌, nat_le, nat_lt, if◌then◌else◌, codes}

-- a byte that could end a line, or steer a terminal
abbrev pub is_control : ℕ → Bool
is_control b = nat_lt b 32 || b == 127

-- it becomes a blank
abbrev pub in_line : ℕ → ℕ
in_line b = if is_control b then 32 else b

-- a byte that goes on a character, which begins before it
abbrev pub goes_on : ℕ → Bool
goes_on b = nat_le 128 b && nat_lt b 192

-- where a longer name is cut: behind 4,096 bytes, or before the character of up to four bytes that goes on there
unfoldable pub cut : List ℕ → ℕ
cut bytes =
    if goes_on (get_or bytes 4096 0) then
    if goes_on (get_or bytes 4095 0) then
    if goes_on (get_or bytes 4094 0) then 4093
    else 4094
    else 4095
    else 4096

-- what a text shows of a name: all of it, or its beginning and three dots
unfoldable pub one_line : List ℕ → List ℕ
one_line bytes =
    if nat_le (length bytes) 4096 then map in_line bytes
    else map in_line (take (cut bytes) bytes) ++ codes "..."
