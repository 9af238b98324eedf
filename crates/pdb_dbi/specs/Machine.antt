-- Machines: their numbers and names.
use Rattle.std.specs.Prelude.{ℕ, List, codes, ◌==◌, if◌then◌else◌, Result, Ok}
use Rattle.pdb_base.specs.declared.error.Error.{Error}
use Rattle.pdb_base.specs.Refusal.{◌>>=◌}
use Rattle.pdb_dbi.specs.Header.{header_of}
use Rattle.pdb_dbi.specs.declared.machine.MachineType.{MachineType}
use Rattle.pdb_dbi.specs.declared.machine.MachineType.TheVariants.{Unknown, Am33, Amd64, Arm, Arm64, ArmNT, Ebc, X86, Ia64, M32R, Mips16, MipsFpu, MipsFpu16, PowerPC, PowerPCFP, R4000, RiscV32, RiscV64, RiscV128, SH3, SH3DSP, SH4, SH5, Thumb, WceMipsV2, Invalid}

-- the machine of a number
unfoldable pub machine_of : ℕ → MachineType
machine_of n =
    if n == 0x13 then Am33
    else if n == 0x8664 then Amd64
    else if n == 0x1c0 then Arm
    else if n == 0xaa64 then Arm64
    else if n == 0x1c4 then ArmNT
    else if n == 0xebc then Ebc
    else if n == 0x14c then X86
    else if n == 0x200 then Ia64
    else if n == 0x9041 then M32R
    else if n == 0x266 then Mips16
    else if n == 0x366 then MipsFpu
    else if n == 0x466 then MipsFpu16
    else if n == 0x1f0 then PowerPC
    else if n == 0x1f1 then PowerPCFP
    else if n == 0x166 then R4000
    else if n == 0x5032 then RiscV32
    else if n == 0x5064 then RiscV64
    else if n == 0x5128 then RiscV128
    else if n == 0x1a2 then SH3
    else if n == 0x1a3 then SH3DSP
    else if n == 0x1a6 then SH4
    else if n == 0x1a8 then SH5
    else if n == 0x1c2 then Thumb
    else if n == 0x169 then WceMipsV2
    else if n == 0xffff then Invalid
    else Unknown

-- the number of a machine
abbrev pub machine_number : MachineType → ℕ
machine_number Unknown = 0x0
machine_number Am33 = 0x13
machine_number Amd64 = 0x8664
machine_number Arm = 0x1c0
machine_number Arm64 = 0xaa64
machine_number ArmNT = 0x1c4
machine_number Ebc = 0xebc
machine_number X86 = 0x14c
machine_number Ia64 = 0x200
machine_number M32R = 0x9041
machine_number Mips16 = 0x266
machine_number MipsFpu = 0x366
machine_number MipsFpu16 = 0x466
machine_number PowerPC = 0x1f0
machine_number PowerPCFP = 0x1f1
machine_number R4000 = 0x166
machine_number RiscV32 = 0x5032
machine_number RiscV64 = 0x5064
machine_number RiscV128 = 0x5128
machine_number SH3 = 0x1a2
machine_number SH3DSP = 0x1a3
machine_number SH4 = 0x1a6
machine_number SH5 = 0x1a8
machine_number Thumb = 0x1c2
machine_number WceMipsV2 = 0x169
machine_number Invalid = 0xffff

-- the name of a machine
abbrev pub machine_text : MachineType → List ℕ
machine_text Unknown = codes "Unknown"
machine_text Am33 = codes "Am33"
machine_text Amd64 = codes "Amd64"
machine_text Arm = codes "Arm"
machine_text Arm64 = codes "Arm64"
machine_text ArmNT = codes "ArmNT"
machine_text Ebc = codes "Ebc"
machine_text X86 = codes "X86"
machine_text Ia64 = codes "Ia64"
machine_text M32R = codes "M32R"
machine_text Mips16 = codes "Mips16"
machine_text MipsFpu = codes "MipsFpu"
machine_text MipsFpu16 = codes "MipsFpu16"
machine_text PowerPC = codes "PowerPC"
machine_text PowerPCFP = codes "PowerPCFP"
machine_text R4000 = codes "R4000"
machine_text RiscV32 = codes "RiscV32"
machine_text RiscV64 = codes "RiscV64"
machine_text RiscV128 = codes "RiscV128"
machine_text SH3 = codes "SH3"
machine_text SH3DSP = codes "SH3DSP"
machine_text SH4 = codes "SH4"
machine_text SH5 = codes "SH5"
machine_text Thumb = codes "Thumb"
machine_text WceMipsV2 = codes "WceMipsV2"
machine_text Invalid = codes "Invalid"

-- the machine that the header of a DBI stream tells
abbrev pub machine_in : List ℕ → Result MachineType Error
machine_in b = header_of b >>= λ h. Ok (machine_of h.machine_type)
