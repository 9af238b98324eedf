-- The relative address that a reference's number is.
use Rattle.std.specs.Prelude.{ℕ, ◌+◌, ◌-◌, nat_le, nat_lt, ◌&&◌, Bool, if◌then◌else◌, Option, Some, None}

-- in an image of this load address and size: the number itself, or less the load address; none where it could be both and `)` follows
abbrev pub in_image : ℕ → ℕ → ℕ → Bool → Option ℕ
in_image base size h closed =
    if closed && nat_le base h && nat_lt h size then None
    else if nat_lt h size then Some h
    else if nat_le base h && nat_lt h (base + size) then Some (h - base)
    else None

-- of a PDB alone: a program's load address is 140000000, that of a DLL 180000000; an address of x86 is at least 400000
abbrev pub of_pdb : Bool → ℕ → Bool → Option ℕ
of_pdb x86 h closed =
    if nat_lt h 0x100000000 then (if closed && x86 && nat_le 0x400000 h then None else Some h)
    else if nat_le 0x140000000 h && nat_lt h 0x180000000 then Some (h - 0x140000000)
    else if nat_le 0x180000000 h && nat_lt h 0x200000000 then Some (h - 0x180000000)
    else None
