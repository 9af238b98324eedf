-- Special names of Microsoft's C++: constructors, destructors, operators, and what a compiler makes by itself.
use Rattle.std.specs.Prelude.{ℕ, ◌==◌, Bool, true, false, List, [], ◌∷◌, Option, Some, None, codes, nat_lt, if◌then◌else◌}

abbrev pub row : ℕ → List ℕ → ℕ × List ℕ
row code text = (code, text)

-- the text in a table by the byte that stands for it
abbrev pub text_in : List (ℕ × List ℕ) → ℕ → Option (List ℕ)
text_in [] b = None
text_in (r ∷ rows) b = if b == r.0 then Some r.1 else text_in rows b

-- by a digit
abbrev pub digit_rows : List (ℕ × List ℕ)
digit_rows =
    row 0x32 (codes "operator new") ∷
    row 0x33 (codes "operator delete") ∷
    row 0x34 (codes "operator=") ∷
    row 0x35 (codes "operator>>") ∷
    row 0x36 (codes "operator<<") ∷
    row 0x37 (codes "operator!") ∷
    row 0x38 (codes "operator==") ∷
    row 0x39 (codes "operator!=") ∷
    []

-- by a letter up to M
abbrev pub letter_rows_1 : List (ℕ × List ℕ)
letter_rows_1 =
    row 0x41 (codes "operator[]") ∷
    row 0x43 (codes "operator->") ∷
    row 0x44 (codes "operator*") ∷
    row 0x45 (codes "operator++") ∷
    row 0x46 (codes "operator--") ∷
    row 0x47 (codes "operator-") ∷
    row 0x48 (codes "operator+") ∷
    row 0x49 (codes "operator&") ∷
    row 0x4a (codes "operator->*") ∷
    row 0x4b (codes "operator/") ∷
    row 0x4c (codes "operator%") ∷
    row 0x4d (codes "operator<") ∷
    []

-- by a letter from N on
abbrev pub letter_rows_2 : List (ℕ × List ℕ)
letter_rows_2 =
    row 0x4e (codes "operator<=") ∷
    row 0x4f (codes "operator>") ∷
    row 0x50 (codes "operator>=") ∷
    row 0x51 (codes "operator,") ∷
    row 0x52 (codes "operator()") ∷
    row 0x53 (codes "operator~") ∷
    row 0x54 (codes "operator^") ∷
    row 0x55 (codes "operator|") ∷
    row 0x56 (codes "operator&&") ∷
    row 0x57 (codes "operator||") ∷
    row 0x58 (codes "operator*=") ∷
    row 0x59 (codes "operator+=") ∷
    row 0x5a (codes "operator-=") ∷
    []

-- by a byte behind _
abbrev pub underscore_rows : List (ℕ × List ℕ)
underscore_rows =
    row 0x30 (codes "operator/=") ∷
    row 0x31 (codes "operator%=") ∷
    row 0x32 (codes "operator>>=") ∷
    row 0x33 (codes "operator<<=") ∷
    row 0x34 (codes "operator&=") ∷
    row 0x35 (codes "operator|=") ∷
    row 0x36 (codes "operator^=") ∷
    row 0x37 (codes "`vftable'") ∷
    row 0x38 (codes "`vbtable'") ∷
    row 0x44 (codes "`vbase destructor'") ∷
    row 0x45 (codes "`vector deleting destructor'") ∷
    row 0x47 (codes "`scalar deleting destructor'") ∷
    row 0x55 (codes "operator new[]") ∷
    row 0x56 (codes "operator delete[]") ∷
    []

-- by a byte behind _R
abbrev pub type_rows : List (ℕ × List ℕ)
type_rows =
    row 0x32 (codes "`RTTI Base Class Array'") ∷
    row 0x33 (codes "`RTTI Class Hierarchy Descriptor'") ∷
    row 0x34 (codes "`RTTI Complete Object Locator'") ∷
    []

abbrev pub byte_text : ℕ → Option (List ℕ)
byte_text b = if nat_lt b 0x41 then text_in digit_rows b else if nat_lt b 0x4e then text_in letter_rows_1 b else text_in letter_rows_2 b

-- a special name: its text, whether that of its class stands behind it, and the bytes behind
pub record Special : Type 0 where
  pub text : List ℕ
  pub of_class : Bool
  pub rest : List ℕ

abbrev pub special : List ℕ → Bool → List ℕ → Special
special text of_class rest = record { text = text; of_class = of_class; rest = rest }

abbrev pub without_class : Option (List ℕ) → List ℕ → Option Special
without_class None s = None
without_class (Some text) s = Some (special text false s)

-- behind _R
abbrev pub of_type : List ℕ → Option Special
of_type [] = None
of_type (b ∷ s) = without_class (text_in type_rows b) s

-- behind _
abbrev pub behind_underscore : List ℕ → Option Special
behind_underscore [] = None
behind_underscore (b ∷ s) = if b == 0x52 then of_type s else without_class (text_in underscore_rows b) s

-- a special name at the front: 0 is a constructor, 1 a destructor
unfoldable pub special_name : List ℕ → Option Special
special_name [] = None
special_name (b ∷ s) =
    if b == 0x30 then Some (special [] true s)
    else if b == 0x31 then Some (special (codes "~") true s)
    else if b == 0x5f then behind_underscore s
    else without_class (byte_text b) s
