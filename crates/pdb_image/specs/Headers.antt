-- The headers of an image: the tests of its front, in their order.
use Rattle.std.specs.Prelude.{ℕ, ◌+◌, ◌-◌, List, length, Bool, not, ◌||◌, Result, Ok, Err, nat_eq, nat_lt, ◌==◌, if◌then◌else◌, codes}
use Rattle.std.specs.List.{starts_with}
use Rattle.pdb_base.specs.Fields.{number}
use Rattle.pdb_image.specs.declared.error.ImageError.{ImageError}
use Rattle.pdb_image.specs.declared.error.ImageError.TheVariants.{NotAnImage, UnexpectedEof, NoSignature, UnknownOptionalHeader}
use Rattle.pdb_image.specs.declared.header.FileHeader.{FileHeader}
use Rattle.pdb_image.specs.declared.header.Format.{Format}
use Rattle.pdb_image.specs.declared.header.Format.TheVariants.{Pe32, Pe32Plus}
use Rattle.pdb_image.specs.declared.header.OptionalHeader.{OptionalHeader}
use Rattle.pdb_image.specs.Parts.{◌>>=◌}

-- an image begins with these bytes
abbrev pub is_image : List ℕ → Bool
is_image b = starts_with nat_eq b (codes "MZ")

-- where the signature stands: the bytes P, E, 0, 0
unfoldable pub signature_in : List ℕ → Result ℕ ImageError
signature_in b =
    if not (is_image b) then Err NotAnImage
    else (if nat_lt (length b) 64 then Err UnexpectedEof
    else (if nat_lt (length b) (number b 60 4 + 4) then Err UnexpectedEof
    else (if not (number b (number b 60 4) 4 == 0x4550) then Err NoSignature
    else Ok (number b 60 4))))

-- the fields of the file header behind the signature at e
unfoldable pub file_header_at : List ℕ → ℕ → Result FileHeader ImageError
file_header_at b e =
    if nat_lt (length b) (e + 24) then Err UnexpectedEof
    else Ok (record { at = e; machine = number b (e + 4) 2; sections = number b (e + 6) 2; time_stamp = number b (e + 8) 4; optional_size = number b (e + 20) 2 })

unfoldable pub file_header_of : List ℕ → Result FileHeader ImageError
file_header_of b = signature_in b >>= file_header_at b

-- how many bytes of the optional header stand before its directories
abbrev pub fixed_size : Format → ℕ
fixed_size Pe32 = 96
fixed_size Pe32Plus = 112

-- the load address, of the optional header at o
abbrev pub base_at : List ℕ → ℕ → Format → ℕ
base_at b o Pe32 = number b (o + 28) 4
base_at b o Pe32Plus = number b (o + 24) 8

-- the format of the optional header at o, which has s bytes
unfoldable pub format_at : List ℕ → ℕ → ℕ → Result Format ImageError
format_at b o s =
    if nat_lt s 2 || nat_lt (length b) (o + 2) then Err UnexpectedEof
    else (if number b o 2 == 0x10b then Ok Pe32
    else (if number b o 2 == 0x20b then Ok Pe32Plus
    else Err UnknownOptionalHeader))

-- the fields of the optional header at o, which has s bytes and this format
unfoldable pub optional_fields : List ℕ → ℕ → ℕ → Format → Result OptionalHeader ImageError
optional_fields b o s f =
    if nat_lt s (fixed_size f) || nat_lt (length b) (o + s) then Err UnexpectedEof
    else Ok (record { at = o; size = s; fixed = fixed_size f; base = base_at b o f; size_of_image = number b (o + 56) 4; directories = number b (o + fixed_size f - 4) 4 })

unfoldable pub optional_header_at : List ℕ → ℕ → ℕ → Result OptionalHeader ImageError
optional_header_at b o s = format_at b o s >>= optional_fields b o s
