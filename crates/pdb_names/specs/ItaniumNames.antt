-- Names as the Itanium C++ ABI decorates them: one name, or parts of a nested one.
use Rattle.std.specs.Prelude.{ℕ, ◌+◌, ◌-◌, ◌*◌, List, [], ◌∷◌, ◌++◌, length, take, drop, Bool, not, ◌&&◌, ◌||◌, Option, Some, None, option_map, nat_eq, nat_le, ◌==◌, if◌then◌else◌, codes, position}
use Rattle.std.specs.Char.{is_ascii_digit, is_ascii_alphanumeric}
use Rattle.std.specs.List.{list_all, slice_get, starts_with}
use Rattle.pdb_names.specs.Pieces.{◌>>=◌, qualified, until}
use Rattle.pdb_names.specs.RustNames.{is_hashed, rust_name}

-- the number of one to four decimal digits
abbrev pub number_of : List ℕ → Option ℕ
number_of (a ∷ []) = Some (a - 48)
number_of (a ∷ b ∷ []) = Some ((a - 48) * 10 + (b - 48))
number_of (a ∷ b ∷ c ∷ []) = Some ((a - 48) * 100 + (b - 48) * 10 + (c - 48))
number_of (a ∷ b ∷ c ∷ d ∷ []) = Some ((a - 48) * 1000 + (b - 48) * 100 + (c - 48) * 10 + (d - 48))
number_of s = None

-- letters, digits and _, as the types of parameters are
abbrev pub is_word : List ℕ → Bool
is_word s = list_all (λ x. is_ascii_alphanumeric x || x == 95) s

abbrev pub shown : List ℕ → List ℕ
shown name = if starts_with nat_eq name (codes "_GLOBAL__N") then codes "(anonymous namespace)" else name

-- ---- parts

-- the text of a part, and what is behind it
pub record Piece : Type 0 where
  pub text : List ℕ
  pub rest : List ℕ

abbrev pub piece : List ℕ → List ℕ → Piece
piece text rest = record { text = text; rest = rest }

-- the first v bytes as a name
unfoldable pub named : Option ℕ → List ℕ → Option Piece
named None s = None
named (Some v) s = if nat_le v (length s) then Some (piece (shown (take v s)) (drop v s)) else None

-- n digits that don't begin with 0, and so many bytes as they say
unfoldable pub counted : Option ℕ → List ℕ → Option Piece
counted None s = None
counted (Some n) s = if starts_with nat_eq s (codes "0") then None else named (number_of (take n s)) (drop n s)

unfoldable pub source_name : List ℕ → Option Piece
source_name s = counted (position (λ x. not (is_ascii_digit x)) s) s

-- the part before once more, behind a prefix
abbrev pub again : List ℕ → Option (List ℕ) → List ℕ → Option Piece
again prefix None s = None
again prefix (Some t) s = Some (piece (prefix ++ t) (drop 2 s))

abbrev pub is_constructor : List ℕ → Bool
is_constructor s = starts_with nat_eq s (codes "C1") || starts_with nat_eq s (codes "C2")

abbrev pub is_destructor : List ℕ → Bool
is_destructor s = (starts_with nat_eq s (codes "D0") || starts_with nat_eq s (codes "D1")) || starts_with nat_eq s (codes "D2")

-- a part, by the part before it
unfoldable pub part_at : Option (List ℕ) → List ℕ → Option Piece
part_at before s =
    if is_constructor s then again [] before s
    else if is_destructor s then again (codes "~") before s
    else source_name s

-- the parts so far, and what is left to read
pub record Parts : Type 0 where
  pub texts : List (List ℕ)
  pub rest : List ℕ

abbrev pub with_piece : List (List ℕ) → Piece → Parts
with_piece texts p = record { texts = texts ++ p.text ∷ []; rest = p.rest }

-- one part more
unfoldable pub part : Parts → Option Parts
part p = option_map (with_piece p.texts) (part_at (slice_get p.texts (length p.texts - 1)) p.rest)

-- parts end with E
abbrev pub is_end : Parts → Bool
is_end p = starts_with nat_eq p.rest (codes "E")

-- ---- names

-- the scope std alone may stand at the front
unfoldable pub front : List ℕ → Parts
front s =
    if starts_with nat_eq s (codes "St") then record { texts = codes "std" ∷ []; rest = drop 2 s }
    else record { texts = []; rest = s }

-- of a function whose objects are const, volatile or restricted, and then lvalues or rvalues
abbrev pub is_qualifier : ℕ → Bool
is_qualifier b = (b == 114 || b == 86) || b == 75

abbrev pub behind_reference : List ℕ → List ℕ
behind_reference s = if starts_with nat_eq s (codes "R") || starts_with nat_eq s (codes "O") then drop 1 s else s

-- what is behind qualifiers, the n-th byte being the first that is none
abbrev pub behind_qualifiers : Option ℕ → List ℕ → List ℕ
behind_qualifiers None s = []
behind_qualifiers (Some n) s = behind_reference (drop n s)

-- the name of at least one part
abbrev pub name_of : List (List ℕ) → Option (List ℕ)
name_of ts = if length ts == 0 then None else Some (qualified ts)

-- the name of parts with their end
unfoldable pub whole : Parts → Option (List ℕ)
whole p =
    if not (is_word (drop 1 p.rest)) then None
    else if length p.rest == 1 && is_hashed p.texts then rust_name p.texts
    else name_of p.texts

unfoldable pub all_parts : Parts → Option Parts
all_parts p = until is_end part (length p.rest + 1) p

-- the name behind N
unfoldable pub nested : List ℕ → Option (List ℕ)
nested s = all_parts (front (behind_qualifiers (position (λ x. not (is_qualifier x)) s) s)) >>= whole

-- what may stand behind one name: but no template's arguments and no tag
abbrev pub is_ending : List ℕ → Bool
is_ending s = is_word s && not (starts_with nat_eq s (codes "I") || starts_with nat_eq s (codes "B"))

-- the name of a part that is alone, or in std
abbrev pub alone : List (List ℕ) → Piece → Option (List ℕ)
alone texts p = if is_ending p.rest then Some (qualified (texts ++ p.text ∷ [])) else None

unfoldable pub plain : Parts → Option (List ℕ)
plain p = source_name p.rest >>= alone p.texts

-- the name that bytes spell behind _Z
unfoldable pub itanium_name : List ℕ → Option (List ℕ)
itanium_name s = if starts_with nat_eq s (codes "N") then nested (drop 1 s) else plain (front s)
