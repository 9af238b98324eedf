-- How types begin among the arguments of a template: simple ones, classes, and marks before another type.
use Rattle.std.specs.Prelude.{ℕ, ◌==◌, ◌||◌, Bool, true, false, List, [], ◌∷◌, ◌++◌, drop, Option, Some, None, option_map, codes, nat_eq, if◌then◌else◌}
use Rattle.std.specs.List.{starts_with}
use Rattle.pdb_names.specs.SpecialNames.{row, text_in}
use Rattle.pdb_names.specs.declared.type_heads.Set.{Set}
use Rattle.pdb_names.specs.declared.type_heads.Shape.{Shape}
use Rattle.pdb_names.specs.declared.type_heads.Shape.TheVariants.{Simple, Class, Marked}

-- simple types by a letter
abbrev pub simple_rows : List (ℕ × List ℕ)
simple_rows =
    row 0x43 (codes "signed char") ∷
    row 0x44 (codes "char") ∷
    row 0x45 (codes "unsigned char") ∷
    row 0x46 (codes "short") ∷
    row 0x47 (codes "unsigned short") ∷
    row 0x48 (codes "int") ∷
    row 0x49 (codes "unsigned int") ∷
    row 0x4a (codes "long") ∷
    row 0x4b (codes "unsigned long") ∷
    row 0x4d (codes "float") ∷
    row 0x4e (codes "double") ∷
    row 0x4f (codes "long double") ∷
    row 0x58 (codes "void") ∷
    []

-- simple types by a letter behind _
abbrev pub wide_rows : List (ℕ × List ℕ)
wide_rows =
    row 0x4a (codes "__int64") ∷
    row 0x4b (codes "unsigned __int64") ∷
    row 0x4e (codes "bool") ∷
    row 0x51 (codes "char8_t") ∷
    row 0x53 (codes "char16_t") ∷
    row 0x55 (codes "char32_t") ∷
    row 0x57 (codes "wchar_t") ∷
    []

-- ---- const and volatile

abbrev pub set : Bool → Bool → Set
set is_const is_volatile = record { is_const = is_const; is_volatile = is_volatile }

abbrev pub both : Set → Set → Set
both a b = set (a.is_const || b.is_const) (a.is_volatile || b.is_volatile)

-- each behind a blank
unfoldable pub words : Set → List ℕ
words s = (if s.is_const then codes " const" else []) ++ (if s.is_volatile then codes " volatile" else [])

-- the set of what is pointed to
abbrev pub set_of : ℕ → Option Set
set_of b =
    if b == 0x41 then Some (set false false)
    else if b == 0x42 then Some (set true false)
    else if b == 0x43 then Some (set false true)
    else if b == 0x44 then Some (set true true)
    else None

-- ---- heads

-- how a type begins: of a simple one the text, of a class what stands before its name, of others the mark behind the type
-- that follows; the set of the whole; and the bytes behind
pub record Head : Type 0 where
  pub shape : Shape
  pub text : List ℕ
  pub set : Set
  pub rest : List ℕ

abbrev pub head : Shape → List ℕ → Set → List ℕ → Head
head shape text set rest = record { shape = shape; text = text; set = set; rest = rest }

abbrev pub simple : List ℕ → List ℕ → Head
simple rest text = head Simple text (set false false) rest

abbrev pub of_class : List ℕ → List ℕ → Head
of_class prefix rest = head Class prefix (set false false) rest

-- pointers of 64 bits have an E behind their mark
abbrev pub behind_e : List ℕ → List ℕ
behind_e s = if starts_with nat_eq s (codes "E") then drop 1 s else s

abbrev pub pointer : List ℕ → Set → List ℕ → Head
pointer mark set rest = head Marked mark set (behind_e rest)

-- behind _
abbrev pub wide_head : List ℕ → Option Head
wide_head [] = None
wide_head (b ∷ s) = option_map (simple s) (text_in wide_rows b)

-- behind $
abbrev pub dollar_head : List ℕ → Option Head
dollar_head s =
    if starts_with nat_eq s (codes "$T") then Some (simple (drop 2 s) (codes "std::nullptr_t"))
    else if starts_with nat_eq s (codes "$C") then Some (head Marked (codes " ") (set false false) (drop 2 s))
    else if starts_with nat_eq s (codes "$Q") then Some (pointer (codes " &&") (set false false) (drop 2 s))
    else None

-- behind W
abbrev pub enum_head : List ℕ → Option Head
enum_head s = if starts_with nat_eq s (codes "4") then Some (of_class (codes "enum ") (drop 1 s)) else None

-- pointers by their letter
abbrev pub pointer_head : ℕ → List ℕ → Option Head
pointer_head b s =
    if b == 0x50 then Some (pointer (codes " *") (set false false) s)
    else if b == 0x51 then Some (pointer (codes " *") (set true false) s)
    else if b == 0x52 then Some (pointer (codes " *") (set false true) s)
    else if b == 0x53 then Some (pointer (codes " *") (set true true) s)
    else if b == 0x41 then Some (pointer (codes " &") (set false false) s)
    else option_map (simple s) (text_in simple_rows b)

unfoldable pub head_at : List ℕ → Option Head
head_at [] = None
head_at (b ∷ s) =
    if b == 0x5f then wide_head s
    else if b == 0x24 then dollar_head s
    else if b == 0x57 then enum_head s
    else if b == 0x54 || b == 0x55 || b == 0x56 then Some (of_class [] s)
    else pointer_head b s
