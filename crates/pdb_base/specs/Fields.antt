-- What stands at a place of a list of bytes.
use Rattle.std.specs.Prelude.{ℕ, ℤ, ◌+◌, ◌*◌, ◌^◌, ◌-◌, ◌%◌, Bool, List, length, take, drop, slice_index, Option, Some, None, Result, Ok, Err, nat_le, nat_lt, ◌||◌, ◌==◌, if◌then◌else◌, position}
use Rattle.std.specs.List.{range_with_len, sum_by}
use Rattle.std.specs.Int.{Width, w16, w32, w64, cast_signed, byte_len}
use Rattle.pdb_base.specs.declared.error.Error.{Error}
use Rattle.pdb_base.specs.declared.error.Error.TheVariants.{UnexpectedEof, UnexpectedNumericPrefix}
use Rattle.pdb_base.specs.declared.variant.Variant.{Variant}
use Rattle.pdb_base.specs.declared.variant.Variant.TheVariants.{U8, U16, U32, U64, I16, I32, I64}
use Rattle.pdb_base.specs.Refusal.{◌>>=◌}

-- the sum of b[p + i] * 256 ^ i for each i below w
unfoldable pub number : List ℕ → ℕ → ℕ → ℕ
number b p w = sum_by (λ i. slice_index b (p + i) * 256 ^ i) (range_with_len 0 w)

-- the number of w bytes at p, where they are there
unfoldable pub number_at : List ℕ → ℕ → ℕ → Result ℕ Error
number_at b p w = if nat_le (p + w) (length b) then Ok (number b p w) else Err UnexpectedEof

-- the same, signed
unfoldable pub signed_at : List ℕ → ℕ → Width → Result ℤ Error
signed_at b p w = do
  n ← number_at b p (byte_len w)
  Ok (cast_signed w n)

-- the n bytes at p
unfoldable pub bytes_at : List ℕ → ℕ → ℕ → Result (List ℕ) Error
bytes_at b p n = if nat_le (p + n) (length b) then Ok (take n (drop p b)) else Err UnexpectedEof

-- the bytes before place n, where there is one
abbrev pub cut_at : List ℕ → Option ℕ → Result (List ℕ) Error
cut_at b None = Err UnexpectedEof
cut_at b (Some n) = Ok (take n b)

-- the bytes from p on before the first zero byte
unfoldable pub cstring_at : List ℕ → ℕ → Result (List ℕ) Error
cstring_at b p = cut_at (drop p b) (position (λ x. x == 0) (drop p b))

-- as many bytes as the byte at p says, after it
unfoldable pub pascal_at : List ℕ → ℕ → Result (List ℕ) Error
pascal_at b p = do
  n ← number_at b p 1
  bytes_at b (p + 1) n

-- the number that stands at p behind a prefix
abbrev pub variant_behind : ℕ → List ℕ → ℕ → Result Variant Error
variant_behind prefix b p =
    if nat_lt prefix 0x8000 then Ok (U16 prefix)
    else if prefix == 0x8000 then number_at b p 1 >>= (λ n. Ok (U8 n))
    else if prefix == 0x8001 then signed_at b p w16 >>= (λ n. Ok (I16 n))
    else if prefix == 0x8002 then number_at b p 2 >>= (λ n. Ok (U16 n))
    else if prefix == 0x8003 then signed_at b p w32 >>= (λ n. Ok (I32 n))
    else if prefix == 0x8004 then number_at b p 4 >>= (λ n. Ok (U32 n))
    else if prefix == 0x8009 then signed_at b p w64 >>= (λ n. Ok (I64 n))
    else if prefix == 0x800a then number_at b p 8 >>= (λ n. Ok (U64 n))
    else Err (UnexpectedNumericPrefix prefix)

-- a number by the prefix that stands before it; a prefix below 0x8000 is the number
unfoldable pub variant_at : List ℕ → ℕ → Result Variant Error
variant_at b p = do
  prefix ← number_at b p 2
  variant_behind prefix b (p + 2)

-- how many bytes a number takes, with its prefix
abbrev pub width_behind : ℕ → ℕ
width_behind prefix =
    if nat_lt prefix 0x8000 then 2
    else if prefix == 0x8000 then 3
    else if prefix == 0x8001 then 4
    else if prefix == 0x8002 then 4
    else if prefix == 0x8003 then 6
    else if prefix == 0x8004 then 6
    else 10

abbrev pub variant_width : List ℕ → ℕ → ℕ
variant_width b p = width_behind (number b p 2)

-- how far the next multiple of n is
abbrev pub padding : ℕ → ℕ → ℕ
padding p n = if p % n == 0 then 0 else n - p % n

-- the padding up to the next multiple of n
abbrev pub aligned_at : List ℕ → ℕ → ℕ → Result (Unit {0}) Error
aligned_at b p n = if nat_le (p + padding p n) (length b) then Ok tt else Err UnexpectedEof

-- a prefix that says which kind of number follows, or is the number
abbrev pub is_listed : ℕ → Bool
is_listed n = nat_lt n 0x8000 || n == 0x8000 || n == 0x8001 || n == 0x8002 || n == 0x8003 || n == 0x8004 || n == 0x8009 || n == 0x800a
