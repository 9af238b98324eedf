-- The values of enumerators, as numbers of the underlying type.
use Rattle.std.specs.Prelude.{ℕ, zero, suc, ℤ, pos, ◌-ℤ◌, int_div, ◌==◌, ◌||◌, ◌&&◌, nat_le, nat_lt, int_lt, if◌then◌else◌, List, length, Option, Some, None}
use Rattle.std.specs.Int.{w128, cast_unsigned, int_rem_euclid}
use Rattle.pdb_base.specs.Fields.{number}
use Rattle.pdb_items.specs.Items.{ItemEntry}
use Rattle.pdb_items.specs.Ids.{kind_at}
use Rattle.pdb_types.specs.FullTypes.{says_of}
use Rattle.pdb_types.specs.TypeSays.{TypeSays}
use Rattle.pdb_types.specs.TypeSays.TypeSays.{Modifier}

-- ---- the underlying type

abbrev pub unmodified_by : (ℕ → ℕ) → ℕ → Option TypeSays → ℕ
unmodified_by sub i (Some (Modifier s)) = sub s.underlying.0
unmodified_by sub i says = i

-- the index of a type without its modifiers, of which at most so many are passed
unfoldable pub unmodified : List ItemEntry → ℕ → ℕ → ℕ
unmodified types zero i = i
unmodified types (suc d) i = if nat_lt i 0x1000 then i else unmodified_by (unmodified types d) i (says_of types i)

-- which numbers a type has: so many, half of them negative; so many from 0 on; those of an unsigned type of 128 bits; or as they are stored
pub data NumberKind : Type 0 where
  Signed : (count : ℤ) → NumberKind
  Unsigned : (count : ℤ) → NumberKind
  Wide : NumberKind
  Stored : NumberKind

-- by the index of a simple type; a signed type of 128 bits has each number that can be stored
abbrev pub number_kind : ℕ → NumberKind
number_kind i =
    if i == 0x10 || i == 0x68 || i == 0x70 then Signed (pos 0x100)
    else if i == 0x11 || i == 0x72 then Signed (pos 0x10000)
    else if i == 0x12 || i == 0x74 then Signed (pos 0x100000000)
    else if i == 0x13 || i == 0x76 then Signed (pos 0x10000000000000000)
    else if i == 0x20 || i == 0x30 || i == 0x69 || i == 0x7c then Unsigned (pos 0x100)
    else if i == 0x21 || i == 0x31 || i == 0x71 || i == 0x73 || i == 0x7a then Unsigned (pos 0x10000)
    else if i == 0x22 || i == 0x32 || i == 0x75 || i == 0x7b then Unsigned (pos 0x100000000)
    else if i == 0x23 || i == 0x33 || i == 0x77 then Unsigned (pos 0x10000000000000000)
    else if i == 0x24 || i == 0x34 || i == 0x79 then Wide
    else Stored

-- ---- values

-- a number from 0 on and below a count, less the count from its half on
abbrev pub centred : ℤ → ℤ → ℤ
centred count n = if int_lt n (int_div count (pos 2)) then n else n -ℤ count

-- a number as one of a kind: modulo the count of the kind's numbers; an unsigned number of 128 bits that is stored negative is 2 ^ 128 more
abbrev pub number_as : NumberKind → ℤ → ℤ
number_as (Signed count) v = centred count (int_rem_euclid v count)
number_as (Unsigned count) v = int_rem_euclid v count
number_as Wide v = pos (cast_unsigned w128 v)
number_as Stored v = v

-- the value of an enumerator, by the type of its enumeration's values
unfoldable pub enumerator_number : List ItemEntry → ℕ → ℤ → ℤ
enumerator_number types i v = number_as (number_kind (unmodified types 64 i)) v

-- ---- bit fields

-- where the bits of an item stand, which is a bit field: LF_BITFIELD has it at 7
abbrev pub bit_position_in : Option ItemEntry → Option ℕ
bit_position_in None = None
bit_position_in (Some x) = if kind_at x.bytes == 0x1205 && nat_le 8 (length x.bytes) then Some (number x.bytes 7 1) else None
