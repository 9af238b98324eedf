-- Fixed texts in a line.
use Rattle.std.specs.Prelude.{ℕ, ◌+◌, List, [], ◌∷◌, drop, length, map, nat_eq, nat_le, take, ◌&&◌, Bool, if◌then◌else◌, Option, Some, None, unwrap_or}
use Rattle.std.specs.Char.{to_ascii_lowercase}
use Rattle.std.specs.List.{starts_with}
use Rattle.std.specs.Option.{option_or}
use Rattle.std.specs.Str.{bytes_eq}

-- a text stands at an offset
unfoldable pub stands : List ℕ → ℕ → List ℕ → Bool
stands line at text = starts_with nat_eq (drop at line) text

-- the offset behind a text that stands at an offset
unfoldable pub behind_text : List ℕ → ℕ → List ℕ → Option ℕ
behind_text line at text = if stands line at text then Some (at + length text) else None

-- the same, where the text may be missing
abbrev pub past_text : List ℕ → ℕ → List ℕ → ℕ
past_text line at text = unwrap_or (behind_text line at text) at

-- what is found at the first of these offsets at which something is: that of each byte of a rest, which begins at `at`
abbrev pub first_found : {X : Type 0} → (ℕ → Option X) → ℕ → List ℕ → Option X
first_found look at [] = None
first_found look at (b ∷ rest) = option_or (look at) (first_found look (at + 1) rest)

-- the offset behind the first occurrence of a text
unfoldable pub find_behind : List ℕ → List ℕ → Option ℕ
find_behind line text = first_found (λ at. behind_text line at text) 0 line

abbrev pub lower : List ℕ → List ℕ
lower text = map to_ascii_lowercase text

-- a text begins with a label, in any case
abbrev pub begins_with_label : List ℕ → List ℕ → Bool
begins_with_label text label = nat_le (length label) (length text) && bytes_eq (lower (take (length label) text)) (lower label)

-- the offset behind a label that stands at an offset
unfoldable pub behind_label : List ℕ → ℕ → List ℕ → Option ℕ
behind_label line at label = if begins_with_label (drop at line) label then Some (at + length label) else None

unfoldable pub behind_either : List ℕ → ℕ → List ℕ → List ℕ → Option ℕ
behind_either line at label other = option_or (behind_label line at label) (behind_label line at other)

-- the offset behind the first occurrence of one of two labels
unfoldable pub find_label : List ℕ → List ℕ → List ℕ → Option ℕ
find_label line label other = first_found (λ at. behind_either line at label other) 0 line
