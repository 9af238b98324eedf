-- Kinds of bytes, and runs of a kind in a line.
use Rattle.std.specs.Prelude.{ℕ, zero, suc, ◌+◌, List, [], ◌∷◌, drop, get_or, length, min, nat_le, ◌==◌, ◌||◌, ◌&&◌, not, Bool, false, if◌then◌else◌}
use Rattle.std.specs.Char.{is_ascii_alphanumeric, is_ascii_digit, is_ascii_hexdigit}
use Rattle.std.specs.List.{prefix_len}
use Rattle.pdb_stacks.specs.declared.bytes.Kind.{Kind}
use Rattle.pdb_stacks.specs.declared.bytes.Kind.TheVariants.{Blank, Control, Digit, HexDigit, Word, Module, JoinsHex, FileName, Path, LineEnd}

-- a letter, a digit, or `_`
abbrev pub is_identifier : ℕ → Bool
is_identifier b = is_ascii_alphanumeric b || b == 95

abbrev pub is_blank : ℕ → Bool
is_blank b = b == 32 || b == 9

-- a byte is of a kind: beside letters and digits, words have `_` and backticks (96), names of modules `_`, `.` (46), `-` (45),
-- `~` (126) and what isn't ASCII; behind a hex number stands none of these, `(` (40) and `/` (47); paths are cut at `/` and `\` (92),
-- and end at a comma (44)
unfoldable pub is_of : Kind → ℕ → Bool
is_of Blank b = is_blank b
is_of Control b = not (nat_le 32 b)
is_of Digit b = is_ascii_digit b
is_of HexDigit b = is_ascii_hexdigit b
is_of Word b = is_identifier b || b == 96
is_of Module b = is_identifier b || b == 46 || b == 45 || b == 126 || nat_le 128 b
is_of JoinsHex b = is_identifier b || b == 40 || b == 47 || b == 96
is_of FileName b = not (b == 47) && not (b == 92)
is_of Path b = nat_le 32 b && not (b == 44)
is_of LineEnd b = is_blank b || b == 13

-- the first byte passes a test
abbrev pub first_is : (ℕ → Bool) → List ℕ → Bool
first_is test [] = false
first_is test (b ∷ bs) = test b

-- a byte of a kind stands at an offset
unfoldable pub kind_at : Kind → List ℕ → ℕ → Bool
kind_at kind line at = first_is (is_of kind) (drop at line)

-- the offset behind the bytes of a kind that stand from an offset on
unfoldable pub run_end : Kind → List ℕ → ℕ → ℕ
run_end kind line from = from + prefix_len (is_of kind) (drop from line)

-- the offset of the bytes of a kind that stand before offset n
unfoldable pub run_before : Kind → List ℕ → ℕ → ℕ
run_before kind line zero = zero
run_before kind line (suc n) = if is_of kind (get_or line n 0) then run_before kind line n else suc n

abbrev pub run_start : Kind → List ℕ → ℕ → ℕ
run_start kind line end = run_before kind line (min end (length line))
