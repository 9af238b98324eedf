-- Where the name of a symbol ends.
use Rattle.std.specs.Prelude.{◌≡◌, ℕ, List, codes, drop, length, max, nat_eq, take, ◌||◌, ◌&&◌, not, Bool, if◌then◌else◌, Option, Some, None, is_some, unwrap_or}
use Rattle.std.specs.List.{ends_with}
use Rattle.pdb_stacks.specs.HexTexts.{offset_at}
use Rattle.pdb_stacks.specs.LineBytes.{kind_at}
use Rattle.pdb_stacks.specs.LineTexts.{behind_text, first_found, stands}
use Rattle.pdb_stacks.specs.declared.bytes.Kind.TheVariants.{Control}
use Rattle.pdb_stacks.specs.declared.marks.Mark.{Mark}

-- a `!` at an offset would be of the name of an operator
abbrev pub is_of_operator : List ℕ → ℕ → Bool
is_of_operator line at = ends_with nat_eq (take at line) (codes "operator")

-- no name of a symbol has the byte at an offset
unfoldable pub is_stop : List ℕ → ℕ → Bool
is_stop line at = kind_at Control line at || stands line at (codes " [") || (stands line at (codes "!") && not (is_of_operator line at))

-- a mark: a stop, or an offset
unfoldable pub mark_at : List ℕ → ℕ → Option ℕ
mark_at line at = if is_stop line at || is_some (offset_at line at) then Some at else None

-- the nearest mark from an offset on, or the end of the line
unfoldable pub nearest : List ℕ → ℕ → ℕ
nearest line from = unwrap_or (first_found (mark_at line) from (drop from line)) (max from (length line))

abbrev pub IsNearest : List ℕ → Mark → Type 0
IsNearest line m = nearest line m.from ≡ m.at

-- the mark of the symbol behind an offset, if one begins there
abbrev pub IsSymbolMark : List ℕ → ℕ → ℕ → Type 0
IsSymbolMark line at mark = (start : ℕ) → behind_text line at (codes "!") ≡ Some start → mark ≡ nearest line start
