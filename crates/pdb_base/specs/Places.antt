-- What stands at a place of a list of bytes, as facts on places alone.
use Rattle.std.specs.Prelude.{ℕ, ℤ, ◌+◌, ◌%◌, ◌≡◌, ◌≢◌, ◌<◌, ◌≤◌, ◌⊎◌, List, length, take, drop, slice_index}
use Rattle.std.specs.Int.{Width, w16, w32, w64, cast_signed, byte_len}
use Rattle.pdb_base.specs.declared.variant.Variant.{Variant}
use Rattle.pdb_base.specs.declared.variant.Variant.TheVariants.{U8, U16, U32, U64, I8, I16, I32, I64}
use Rattle.pdb_base.specs.Fields.{number}

-- n is the number of the w bytes at p
pub record IsNumber (b : List ℕ) (p w n : ℕ) : Type 0 where
  pub there : p + w ≤ length b
  pub value : n ≡ number b p w

-- s is the n bytes at p
pub record IsSlice (b : List ℕ) (p n : ℕ) (s : List ℕ) : Type 0 where
  pub there : p + n ≤ length b
  pub value : s ≡ take n (drop p b)

-- s is the bytes from p on before the least place with a zero byte
pub record IsCString (b : List ℕ) (p : ℕ) (s : List ℕ) : Type 0 where
  pub there : p + length s < length b
  pub ended : slice_index b (p + length s) ≡ 0
  pub least : (i : ℕ) → i < length s → slice_index b (p + i) ≢ 0
  pub value : s ≡ take (length s) (drop p b)

-- s is as many bytes as the byte at p says, after it
pub record IsPascal (b : List ℕ) (p : ℕ) (s : List ℕ) : Type 0 where
  pub counted : IsNumber b p 1 (length s)
  pub value : IsSlice b (p + 1) (length s) s

-- q is the multiple of n from p on that is fewer than n bytes away
pub record IsAligned (b : List ℕ) (p n q : ℕ) : Type 0 where
  pub behind : p ≤ q
  pub near : q < p + n
  pub multiple : q % n ≡ 0
  pub there : q ≤ length b

-- n is the number of the bytes of a width at p, the greatest bit of which is its sign
pub record IsSigned (b : List ℕ) (p : ℕ) (w : Width) (n : ℤ) : Type 0 where
  pub bits : ℕ
  pub at : IsNumber b p (byte_len w) bits
  pub value : n ≡ cast_signed w bits

-- v is the number behind the prefix at p, which says its width and its sign; a prefix below 0x8000 is the number
abbrev pub IsVariant : List ℕ → ℕ → Variant → Type 0
IsVariant b p (U8 n) = IsNumber b p 2 0x8000 × IsNumber b (p + 2) 1 n
IsVariant b p (I16 n) = IsNumber b p 2 0x8001 × IsSigned b (p + 2) w16 n
IsVariant b p (U16 n) = (IsNumber b p 2 n × (n < 0x8000)) ⊎ (IsNumber b p 2 0x8002 × IsNumber b (p + 2) 2 n)
IsVariant b p (I32 n) = IsNumber b p 2 0x8003 × IsSigned b (p + 2) w32 n
IsVariant b p (U32 n) = IsNumber b p 2 0x8004 × IsNumber b (p + 2) 4 n
IsVariant b p (I64 n) = IsNumber b p 2 0x8009 × IsSigned b (p + 2) w64 n
IsVariant b p (U64 n) = IsNumber b p 2 0x800a × IsNumber b (p + 2) 8 n
IsVariant b p (I8 n) = ⊥
