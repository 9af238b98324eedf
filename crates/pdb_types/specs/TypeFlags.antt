-- The flags of modifiers, pointers and tags.
use Rattle.std.specs.Prelude.{ℕ, ◌/◌, ◌%◌, ◌==◌, ◌&&◌, Bool, false, not, Option, Some, None, bit_and, if◌then◌else◌}
use Rattle.pdb_types.specs.declared.pointer.Qualifiers.{Qualifiers}

-- one of the bits is set
abbrev pub has : ℕ → ℕ → Bool
has flags bits = not (bit_and flags bits == 0)

abbrev pub modifier_qualifiers : ℕ → Qualifiers
modifier_qualifiers bits = record { is_const = has bits 1; is_volatile = has bits 2; is_unaligned = has bits 4; is_restrict = false }

abbrev pub pointer_qualifiers : ℕ → Qualifiers
pointer_qualifiers a = record { is_const = has a 0x400; is_volatile = has a 0x200; is_unaligned = has a 0x800; is_restrict = has a 0x1000 }

-- no qualifier
abbrev pub is_unqualified : Qualifiers → Bool
is_unqualified q = not q.is_const && not q.is_volatile && not q.is_unaligned && not q.is_restrict

-- the number of a pointer's mode: bits 5 to 7
abbrev pub mode_number : ℕ → ℕ
mode_number a = a / 32 % 8

-- the size that the attributes have: bits 13 to 18, where these aren't 0
abbrev pub some_size : ℕ → Option ℕ
some_size n = if n == 0 then None else Some n

abbrev pub stored_size : ℕ → Option ℕ
stored_size a = some_size (a / 8192 % 64)

-- the size of a pointer to data or code, by its kind in bits 0 to 4: 16 bits near, far and huge; 32 bits near and far; 64 bits
abbrev pub plain_pointer_size : ℕ → Option ℕ
plain_pointer_size a =
    let kind = a % 32 in
    if kind == 0 then Some 2
    else if kind == 1 then Some 4
    else if kind == 2 then Some 4
    else if kind == 0xa then Some 4
    else if kind == 0xb then Some 6
    else if kind == 0xc then Some 8
    else stored_size a

-- the size of a pointer: that of one to a member (modes 2 and 3) is stored
abbrev pub pointer_size : ℕ → Option ℕ
pointer_size a =
    if mode_number a == 2 then stored_size a
    else if mode_number a == 3 then stored_size a
    else plain_pointer_size a
