-- How texts begin.
use Rattle.std.specs.Prelude.{ℕ, List, [], ◌∷◌, drop, nat_eq, ◌||◌, Bool}
use Rattle.std.specs.List.{starts_with}

-- the mark of UTF-16, in either order
abbrev pub is_utf16 : List ℕ → Bool
is_utf16 text = starts_with nat_eq text (0xff ∷ 0xfe ∷ []) || starts_with nat_eq text (0xfe ∷ 0xff ∷ [])

-- the mark of UTF-8
abbrev pub has_mark : List ℕ → Bool
has_mark text = starts_with nat_eq text (0xef ∷ 0xbb ∷ 0xbf ∷ [])

-- its three bytes count as blanks
abbrev pub blanked : List ℕ → List ℕ
blanked text = 32 ∷ 32 ∷ 32 ∷ drop 3 text
