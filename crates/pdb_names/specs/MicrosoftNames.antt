-- Names as Microsoft's C++ decorates them.
use Rattle.std.specs.Prelude.{ℕ, ◌&&◌, ◌||◌, Bool, false, List, [], ◌∷◌, ◌++◌, drop, reverse, Option, Some, None, option_map, codes, nat_eq, nat_le, if◌then◌else◌}
use Rattle.std.specs.Char.{is_ascii_digit}
use Rattle.std.specs.List.{slice_get, starts_with}
use Rattle.pdb_names.specs.KeptNames.{Got, Left, Word, begins_with_digit, left, plain, word}
use Rattle.pdb_names.specs.Pieces.{◌>>=◌, qualified}
use Rattle.pdb_names.specs.SpecialNames.{Special, special_name}
use Rattle.pdb_names.specs.Templates.{Listed, Reading, arguments, components, template, typ}

-- the first component: its text, whether that of its class stands behind it, and what stands behind both
pub record First : Type 0 where
  pub before : List ℕ
  pub of_class : Bool
  pub behind : List ℕ
  pub left : Left

abbrev pub first : List ℕ → Bool → List ℕ → Left → First
first before of_class behind left = record { before = before; of_class = of_class; behind = behind; left = left }

abbrev pub plain_first : Got → First
plain_first g = first g.text false [] g.left

-- a template that isn't kept
abbrev pub template_first : Word → First
template_first t = first t.bytes false [] (left t.rest [])

abbrev pub special_first : Special → First
special_first p = first p.text p.of_class [] (left p.rest [])

-- a template with a special name
unfoldable pub special_template : Reading → Special → Option First
special_template reading p = option_map (λ a. first p.text p.of_class a.bytes (left a.rest [])) (arguments reading (left p.rest []))

-- behind a question mark, which stands at the front
abbrev pub special_at : Reading → List ℕ → Option First
special_at reading s =
    if starts_with nat_eq s (codes "?$?") then special_name (drop 3 s) >>= special_template reading
    else if starts_with nat_eq s (codes "?$") then option_map template_first (template reading (drop 2 s))
    else option_map special_first (special_name (drop 1 s))

-- the first component
unfoldable pub first_at : Reading → List ℕ → Option First
first_at reading s =
    if starts_with nat_eq s (codes "?") then special_at reading s
    else if begins_with_digit s then None
    else (word s >>= λ w. option_map plain_first (plain [] w))

-- what kind of thing the name is of: data, tables and functions, but no thunks
abbrev pub is_kind : List ℕ → Bool
is_kind [] = false
is_kind (b ∷ s) =
    is_ascii_digit b || (nat_le 0x41 b && nat_le b 0x46) || (nat_le 0x49 b && nat_le b 0x4e) || (nat_le 0x51 b && nat_le b 0x56) || (nat_le 0x59 b && nat_le b 0x5a)

-- the text of the first component, by those of the others
abbrev pub first_text : List ℕ → Bool → List ℕ → List (List ℕ) → Option (List ℕ)
first_text before of_class behind ts =
    if of_class then option_map (λ c. before ++ c ++ behind) (slice_get ts 0)
    else Some (before ++ behind)

-- texts from the last to the first, and one behind them
abbrev pub scoped : List (List ℕ) → List ℕ → List ℕ
scoped ts t = qualified (reverse ts ++ t ∷ [])

abbrev pub name_with : First → Listed → Option (List ℕ)
name_with f l = if is_kind l.left.rest then option_map (scoped l.texts) (first_text f.before f.of_class f.behind l.texts) else None

-- the name that bytes spell behind ?
unfoldable pub microsoft_name : List ℕ → Option (List ℕ)
microsoft_name s = first_at (typ 16) s >>= λ f. components (typ 16) f.left >>= name_with f
