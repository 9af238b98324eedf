-- The debug directory of an image, and the CodeView record that names a PDB.
use Rattle.std.specs.Prelude.{ℕ, ◌+◌, ◌-◌, ◌*◌, ◌/◌, List, [], ◌∷◌, map, slice_index, length, take, drop, Bool, not, ◌&&◌, Option, Some, None, Result, Ok, Err, nat_eq, nat_lt, nat_le, ◌==◌, if◌then◌else◌, codes, position}
use Rattle.std.specs.List.{find, range_with_len, starts_with}
use Rattle.pdb_base.specs.Fields.{number}
use Rattle.pdb_image.specs.declared.error.ImageError.{ImageError}
use Rattle.pdb_image.specs.declared.error.ImageError.TheVariants.{UnexpectedEof, Nb10, UnknownCodeView}
use Rattle.pdb_image.specs.declared.debug.DebugDirectory.{DebugDirectory}
use Rattle.pdb_image.specs.declared.header.OptionalHeader.{OptionalHeader}
use Rattle.pdb_image.specs.Parts.{◌>>=◌, bytes_at}

-- the address of the debug directory, and how many entries it has: directory 6 of the optional header
abbrev pub directory_of : List ℕ → OptionalHeader → DebugDirectory
directory_of b h =
    if nat_lt 6 h.directories && nat_le (h.fixed + 56) h.size
    then record { address = number b (h.at + h.fixed + 48) 4; entries = number b (h.at + h.fixed + 52) 4 / 28 }
    else record { address = 0; entries = 0 }

-- whether section i of those whose headers begin at t has the address r, by its raw data
abbrev pub has_address : List ℕ → ℕ → ℕ → ℕ → Bool
has_address b t r i = nat_le (number b (t + 40 * i + 12) 4) r && nat_lt r (number b (t + 40 * i + 12) 4 + number b (t + 40 * i + 16) 4)

-- the first of n sections that has the address
unfoldable pub section_of : List ℕ → ℕ → ℕ → ℕ → Option ℕ
section_of b t n r = find (has_address b t r) (range_with_len 0 n)

-- the offset in the file of the byte at address r, of section i
abbrev pub offset_in : List ℕ → ℕ → ℕ → ℕ → ℕ
offset_in b t r i = number b (t + 40 * i + 20) 4 + (r - number b (t + 40 * i + 12) 4)

abbrev pub or_end : Option ℕ → Result ℕ ImageError
or_end None = Err UnexpectedEof
or_end (Some i) = Ok i

-- an offset at which n bytes are
abbrev pub there : List ℕ → ℕ → ℕ → Result ℕ ImageError
there b n p = if nat_lt (length b) (p + n) then Err UnexpectedEof else Ok p

-- where the entries of the debug directory stand, by the headers of n sections at t
unfoldable pub entries_at : List ℕ → ℕ → ℕ → DebugDirectory → Result ℕ ImageError
entries_at b t n d = or_end (section_of b t n d.address) >>= λ i. there b (28 * d.entries) (offset_in b t d.address i)

-- the first of k entries from p on that is of type 2, CodeView
unfoldable pub code_view_of : List ℕ → ℕ → ℕ → Option ℕ
code_view_of b p k = find (λ i. number b (p + 28 * i + 12) 4 == 2) (range_with_len 0 k)

-- the bytes of the record of entry i, where there is one
abbrev pub record_at : List ℕ → ℕ → Option ℕ → Result (Option (List ℕ)) ImageError
record_at b p None = Ok None
record_at b p (Some i) = bytes_at b (number b (p + 28 * i + 24) 4) (number b (p + 28 * i + 16) 4) >>= λ bytes. Ok (Some bytes)

-- the bytes of the CodeView record, where the image has one
unfoldable pub code_view_in : List ℕ → ℕ → ℕ → DebugDirectory → Result (Option (List ℕ)) ImageError
code_view_in b t n d =
    if nat_lt (length b) (t + 40 * n) then Err UnexpectedEof
    else (if d.entries == 0 then Ok None
    else (entries_at b t n d >>= λ p. record_at b p (code_view_of b p d.entries)))

-- what names a PDB
pub record Reference : Type 0 where
  pub guid : List ℕ
  pub age : ℕ
  pub path : List ℕ

-- the bytes before the first zero byte, or all
abbrev pub before_zero : Option ℕ → List ℕ → List ℕ
before_zero None bytes = bytes
before_zero (Some n) bytes = take n bytes

-- the GUID of a record: a field of four bytes at 4 and two of two, each greatest byte first, and then eight bytes
unfoldable pub guid_of : List ℕ → List ℕ
guid_of r = map (slice_index r) (7 ∷ 6 ∷ 5 ∷ 4 ∷ 9 ∷ 8 ∷ 11 ∷ 10 ∷ 12 ∷ 13 ∷ 14 ∷ 15 ∷ 16 ∷ 17 ∷ 18 ∷ 19 ∷ [])

-- the fields of a record that begins with RSDS
abbrev pub reference_fields : List ℕ → Reference
reference_fields r = record { guid = guid_of r; age = number r 20 4; path = before_zero (position (λ x. x == 0) (drop 24 r)) (drop 24 r) }

-- what the record of these bytes names
unfoldable pub reference_of : List ℕ → Result Reference ImageError
reference_of r =
    if nat_lt (length r) 4 then Err UnexpectedEof
    else (if starts_with nat_eq r (codes "NB10") then Err Nb10
    else (if not (starts_with nat_eq r (codes "RSDS")) then Err UnknownCodeView
    else (if nat_lt (length r) 24 then Err UnexpectedEof
    else Ok (reference_fields r))))
