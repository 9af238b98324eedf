-- Simple types: their names and sizes, by their indices, which are below 0x1000.
use Rattle.std.specs.Prelude.{ℕ, ◌/◌, ◌%◌, ◌==◌, ◌&&◌, Bool, not, List, [], ◌∷◌, ◌++◌, Option, Some, None, codes, nat_lt, if◌then◌else◌}

-- a kind of simple types: its name and its size in bytes, where it has one
pub record SimpleKind : Type 0 where
  pub name : List ℕ
  pub size : Option ℕ

abbrev row : ℕ → List ℕ → Option ℕ → ℕ × SimpleKind
row kind name size = (kind, record { name = name; size = size })

-- kinds below 0x30
abbrev pub simple_rows_1 : List (ℕ × SimpleKind)
simple_rows_1 =
    row 0x03 (codes "void") (Some 0) ∷
    row 0x07 (codes "<not translated>") None ∷
    row 0x08 (codes "HRESULT") (Some 4) ∷
    row 0x10 (codes "signed char") (Some 1) ∷
    row 0x11 (codes "short") (Some 2) ∷
    row 0x12 (codes "long") (Some 4) ∷
    row 0x13 (codes "__int64") (Some 8) ∷
    row 0x14 (codes "__int128") (Some 16) ∷
    row 0x20 (codes "unsigned char") (Some 1) ∷
    row 0x21 (codes "unsigned short") (Some 2) ∷
    row 0x22 (codes "unsigned long") (Some 4) ∷
    row 0x23 (codes "unsigned __int64") (Some 8) ∷
    row 0x24 (codes "unsigned __int128") (Some 16) ∷
    []

-- kinds from 0x30 to 0x5f
abbrev pub simple_rows_2 : List (ℕ × SimpleKind)
simple_rows_2 =
    row 0x30 (codes "bool") (Some 1) ∷
    row 0x31 (codes "__bool16") (Some 2) ∷
    row 0x32 (codes "__bool32") (Some 4) ∷
    row 0x33 (codes "__bool64") (Some 8) ∷
    row 0x34 (codes "__bool128") (Some 16) ∷
    row 0x40 (codes "float") (Some 4) ∷
    row 0x41 (codes "double") (Some 8) ∷
    row 0x42 (codes "long double") (Some 10) ∷
    row 0x43 (codes "__float128") (Some 16) ∷
    row 0x44 (codes "__float48") (Some 6) ∷
    row 0x45 (codes "float") (Some 4) ∷
    row 0x46 (codes "__half") (Some 2) ∷
    row 0x50 (codes "_Complex float") (Some 8) ∷
    row 0x51 (codes "_Complex double") (Some 16) ∷
    row 0x52 (codes "_Complex long double") (Some 20) ∷
    row 0x53 (codes "_Complex __float128") (Some 32) ∷
    row 0x54 (codes "_Complex __float48") (Some 12) ∷
    row 0x55 (codes "_Complex float") (Some 8) ∷
    row 0x56 (codes "_Complex __half") (Some 4) ∷
    []

-- the others
abbrev pub simple_rows_3 : List (ℕ × SimpleKind)
simple_rows_3 =
    row 0x68 (codes "__int8") (Some 1) ∷
    row 0x69 (codes "unsigned __int8") (Some 1) ∷
    row 0x70 (codes "char") (Some 1) ∷
    row 0x71 (codes "wchar_t") (Some 2) ∷
    row 0x72 (codes "__int16") (Some 2) ∷
    row 0x73 (codes "unsigned __int16") (Some 2) ∷
    row 0x74 (codes "int") (Some 4) ∷
    row 0x75 (codes "unsigned") (Some 4) ∷
    row 0x76 (codes "__int64") (Some 8) ∷
    row 0x77 (codes "unsigned __int64") (Some 8) ∷
    row 0x78 (codes "__int128") (Some 16) ∷
    row 0x79 (codes "unsigned __int128") (Some 16) ∷
    row 0x7a (codes "char16_t") (Some 2) ∷
    row 0x7b (codes "char32_t") (Some 4) ∷
    row 0x7c (codes "char8_t") (Some 1) ∷
    []

abbrev pub kind_in : List (ℕ × SimpleKind) → ℕ → Option SimpleKind
kind_in [] kind = None
kind_in ((k, s) ∷ rows) kind = if kind == k then Some s else kind_in rows kind

abbrev pub simple_kind : ℕ → Option SimpleKind
simple_kind kind =
    if nat_lt kind 0x30 then kind_in simple_rows_1 kind
    else if nat_lt kind 0x60 then kind_in simple_rows_2 kind
    else kind_in simple_rows_3 kind

-- a kind's name, and a star where the mode says that it is a pointer
abbrev pub kind_text : ℕ → Option SimpleKind → List ℕ
kind_text mode None = codes "??"
kind_text mode (Some s) = if mode == 0 then s.name else if nat_lt 7 mode then codes "??" else s.name ++ codes "*"

-- the name of a simple type: its kind is the low byte of the index, and its mode stands above
unfoldable pub simple_text : ℕ → List ℕ
simple_text i =
    if i == 0 then codes "<no type>"
    else if i == 0x103 then codes "std::nullptr_t"
    else kind_text (i / 0x100) (simple_kind (i % 0x100))

-- a simple type that is a pointer: its qualifiers stand behind its name
abbrev pub is_simple_pointer : ℕ → Bool
is_simple_pointer i = not (i == 0x103) && nat_lt 0 (i / 0x100) && nat_lt (i / 0x100) 8

-- the size of a pointer of a mode: 16 bits near, far and huge; 32 bits near and far; 64 bits; 128 bits
abbrev pub mode_size : ℕ → Option ℕ
mode_size m =
    if m == 1 then Some 2
    else if m == 2 then Some 4
    else if m == 3 then Some 4
    else if m == 4 then Some 4
    else if m == 5 then Some 6
    else if m == 6 then Some 8
    else if m == 7 then Some 16
    else None

abbrev pub kind_size : ℕ → Option SimpleKind → Option ℕ
kind_size mode None = None
kind_size mode (Some s) = if mode == 0 then s.size else mode_size mode

-- the size of a simple type in bytes, where it has one; the file doesn't have that of `std::nullptr_t`
unfoldable pub simple_size : ℕ → Option ℕ
simple_size i = if i == 0x103 then None else kind_size (i / 0x100) (simple_kind (i % 0x100))
