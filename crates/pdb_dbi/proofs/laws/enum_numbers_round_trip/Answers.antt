use Rattle.std.proofs.Common.{refl}
use Rattle.pdb_dbi.specs.declared.machine.MachineType.TheVariants.{Unknown, Am33, Amd64, Arm, Arm64, ArmNT, Ebc, X86, Ia64, M32R, Mips16, MipsFpu, MipsFpu16, PowerPC, PowerPCFP, R4000, RiscV32, RiscV64, RiscV128, SH3, SH3DSP, SH4, SH5, Thumb, WceMipsV2, Invalid}
use Rattle.pdb_dbi.specs.Machine.{machine_of}
use Rattle.pdb_dbi.proofs.laws.enum_numbers_round_trip.Goals as goal

pub returns : goal.returns
unfolding machine_of
returns c Unknown = refl
returns c Am33 = refl
returns c Amd64 = refl
returns c Arm = refl
returns c Arm64 = refl
returns c ArmNT = refl
returns c Ebc = refl
returns c X86 = refl
returns c Ia64 = refl
returns c M32R = refl
returns c Mips16 = refl
returns c MipsFpu = refl
returns c MipsFpu16 = refl
returns c PowerPC = refl
returns c PowerPCFP = refl
returns c R4000 = refl
returns c RiscV32 = refl
returns c RiscV64 = refl
returns c RiscV128 = refl
returns c SH3 = refl
returns c SH3DSP = refl
returns c SH4 = refl
returns c SH5 = refl
returns c Thumb = refl
returns c WceMipsV2 = refl
returns c Invalid = refl
