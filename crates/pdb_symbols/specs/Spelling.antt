-- Numbers as annotations spell them: in one, two or four bytes, the greatest byte first.
use Rattle.std.specs.Prelude.{ℕ, ℤ, pos, neg_ℤ, ◌+◌, ◌-◌, ◌*◌, ◌/◌, ◌%◌, ◌==◌, List, length, slice_index, nat_lt, nat_le, if◌then◌else◌, Result, Ok, Err}
use Rattle.pdb_base.specs.declared.error.Error.{Error}
use Rattle.pdb_base.specs.declared.error.Error.TheVariants.{UnexpectedEof, InvalidCompressedAnnotation}
use Rattle.pdb_symbols.specs.declared.spelling.Spelled.{Spelled}

-- how many bytes a spelling takes, by its first byte
abbrev pub spelled_width : ℕ → ℕ
spelled_width first = if nat_lt first 0x80 then 1 else if nat_lt first 0xc0 then 2 else 4

-- the number that is spelled at p, and the place behind it
abbrev pub spelled : List ℕ → ℕ → Spelled
spelled b p =
    if nat_lt (slice_index b p) 0x80 then record { value = slice_index b p; end = p + 1 }
    else if nat_lt (slice_index b p) 0xc0 then record { value = (slice_index b p - 0x80) * 256 + slice_index b (p + 1); end = p + 2 }
    else record { value = (slice_index b p - 0xc0) * 16777216 + slice_index b (p + 1) * 65536 + slice_index b (p + 2) * 256 + slice_index b (p + 3); end = p + 4 }

-- the same, where its bytes are there, and the first of them is below 0xe0
unfoldable pub spelled_at : List ℕ → ℕ → Result Spelled Error
spelled_at b p =
    if nat_lt (length b) (p + spelled_width (slice_index b p)) then Err UnexpectedEof
    else if nat_le 0xe0 (slice_index b p) then Err InvalidCompressedAnnotation
    else Ok (spelled b p)

-- the signed number that a spelled one stands for: its half, negated where it is odd
abbrev pub signed_of : ℕ → ℤ
signed_of n = if n % 2 == 0 then pos (n / 2) else neg_ℤ (pos (n / 2))
