-- Numbers of frames, with which lines of a stack begin.
use Rattle.std.specs.Prelude.{ℕ, ◌-◌, List, codes, nat_le, slice_range, ◌&&◌, Bool, if◌then◌else◌, Option, None, option_map, unwrap_or}
use Rattle.pdb_stacks.specs.HexTexts.{hex_in}
use Rattle.pdb_stacks.specs.LineBytes.{kind_at, run_end}
use Rattle.pdb_stacks.specs.LineTexts.{behind_text, past_text, stands}
use Rattle.pdb_stacks.specs.declared.bytes.Kind.TheVariants.{Blank, Digit, HexDigit}

-- `#` and blanks, or nothing
unfoldable pub past_hash : List ℕ → ℕ → ℕ
past_hash line at = unwrap_or (option_map (run_end Blank line) (behind_text line at (codes "#"))) at

-- behind blanks, and `=>` or nothing
abbrev pub digits_start : List ℕ → ℕ
digits_start line = past_hash line (past_text line (run_end Blank line 0) (codes "=>"))

-- `:`, `#` or nothing, and a blank
unfoldable pub ends_number : List ℕ → ℕ → Bool
ends_number line at = kind_at Blank line (if stands line at (codes ":") then past_text line at (codes ":") else past_text line at (codes "#"))

-- 1 to 3 hex digits, of which the first is decimal
abbrev pub number_between : List ℕ → ℕ → ℕ → Option ℕ
number_between line start end =
    if nat_le (end - start) 3 && kind_at Digit line start && ends_number line end then hex_in (slice_range line start end) else None

abbrev pub number_at : List ℕ → ℕ → Option ℕ
number_at line start = number_between line start (run_end HexDigit line start)

unfoldable pub frame_number : List ℕ → Option ℕ
frame_number line = number_at line (digits_start line)
