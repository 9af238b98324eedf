-- Machines: which one a number of a processor means, and which registers frames count from.
use Rattle.std.specs.Prelude.{ℕ, List, Option, Some, None, ◌==◌, nat_lt, if◌then◌else◌}
use Rattle.pdb_base.specs.declared.index.Register.{Register}
use Rattle.pdb_records.specs.declared.machine.Machine.{Machine}
use Rattle.pdb_records.specs.declared.machine.Machine.TheVariants.{X86, X64, Arm, Arm64, Mips}
use Rattle.pdb_records.specs.RegistersX86.{x86_name}
use Rattle.pdb_records.specs.RegistersX64.{x64_name}
use Rattle.pdb_records.specs.RegistersArm.{arm_name}
use Rattle.pdb_records.specs.RegistersArm64.{arm64_name}
use Rattle.pdb_records.specs.RegistersMips.{mips_name}
use Rattle.pdb_records.specs.RegistersCommon.{common_name}

-- the machine of a processor's number, as records of compilers have it
abbrev pub machine_of_processor : ℕ → Option Machine
machine_of_processor n =
    if nat_lt n 0x8 then Some X86
    else if nat_lt n 0x10 then None
    else if nat_lt n 0x19 then Some Mips
    else if nat_lt n 0x60 then None
    else if nat_lt n 0x69 then Some Arm
    else if n == 0xd0 then Some X64
    else if n == 0xf0 then Some Arm
    else if n == 0xf4 then Some Arm
    else if n == 0xf6 then Some Arm64
    else if n == 0xf8 then Some Arm64
    else if n == 0xf9 then Some Arm64
    else None

-- the machine of a number of the PE format, as the header of the DBI stream has it
abbrev pub machine_of_image : ℕ → Option Machine
machine_of_image n =
    if n == 0x14c then Some X86
    else if n == 0x8664 then Some X64
    else if n == 0x1c0 then Some Arm
    else if n == 0x1c2 then Some Arm
    else if n == 0x1c4 then Some Arm
    else if n == 0xaa64 then Some Arm64
    else if n == 0xa641 then Some Arm64
    else if n == 0xa64e then Some Arm64
    else None

-- a register's name on its own machine
abbrev pub own_name : Machine → ℕ → Option (List ℕ)
own_name X86 n = x86_name n
own_name X64 n = x64_name n
own_name Arm n = arm_name n
own_name Arm64 n = arm64_name n
own_name Mips n = mips_name n

-- the name of a register: numbers from 30000 on are the same on all machines
abbrev pub register_name_of : Machine → ℕ → Option (List ℕ)
register_name_of m n = if nat_lt n 30000 then own_name m n else common_name n

-- the register that an encoded one of a frame is
abbrev pub frame_register_of : Machine → ℕ → Option Register
frame_register_of X86 n =
    if n == 1 then Some (record { 0 = 30006 })
    else if n == 2 then Some (record { 0 = 22 })
    else if n == 3 then Some (record { 0 = 20 })
    else None
frame_register_of X64 n =
    if n == 1 then Some (record { 0 = 335 })
    else if n == 2 then Some (record { 0 = 334 })
    else if n == 3 then Some (record { 0 = 341 })
    else None
frame_register_of Arm n =
    if n == 1 then Some (record { 0 = 23 })
    else if n == 2 then Some (record { 0 = 17 })
    else None
frame_register_of Arm64 n =
    if n == 1 then Some (record { 0 = 81 })
    else if n == 2 then Some (record { 0 = 79 })
    else None
frame_register_of Mips n = None
