-- Names of C functions on x86: a leading byte by the calling convention, and how many bytes the arguments have.
use Rattle.std.specs.Prelude.{ℕ, ◌+◌, List, length, take, drop, Bool, not, ◌&&◌, ◌||◌, Option, Some, None, nat_eq, nat_lt, nat_le, ◌==◌, if◌then◌else◌, codes, position}
use Rattle.std.specs.Char.{is_ascii_digit}
use Rattle.std.specs.List.{list_all, starts_with}

-- how many bytes the arguments have: one to five digits
abbrev pub is_size : List ℕ → Bool
is_size s = nat_lt 0 (length s) && nat_le (length s) 5 && list_all is_ascii_digit s

-- a name of at least one byte, none of them a question mark
abbrev pub is_name : List ℕ → Bool
is_name s = nat_lt 0 (length s) && list_all (λ x. not (x == 63)) s

-- the name before an @ and a size; without an @ all bytes, which only a leading _ allows
unfoldable pub before_size : Bool → Option ℕ → List ℕ → Option (List ℕ)
before_size is_plain None s = if is_plain && is_name s then Some s else None
before_size is_plain (Some n) s = if is_size (drop (n + 1) s) && is_name (take n s) then Some (take n s) else None

-- the name of a C function, where these bytes spell one
unfoldable pub c_name : List ℕ → Option (List ℕ)
c_name d =
    if starts_with nat_eq d (codes "_") || starts_with nat_eq d (codes "@")
    then before_size (starts_with nat_eq d (codes "_")) (position (λ x. x == 64) (drop 1 d)) (drop 1 d)
    else None
