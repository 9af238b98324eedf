use Rattle.std.proofs.Common.{◌≡◌, ℕ, ◌==◌, Bool, true, false, cond, refl, sym, ◌∙◌}
use Rattle.std.proofs.lemmas.Bool.{eqb-true}
use Rattle.pdb_dbi.specs.declared.machine.MachineType.{MachineType}
use Rattle.pdb_dbi.specs.declared.machine.MachineType.TheVariants.{Unknown, Am33, Amd64, Arm, Arm64, ArmNT, Ebc, X86, Ia64, M32R, Mips16, MipsFpu, MipsFpu16, PowerPC, PowerPCFP, R4000, RiscV32, RiscV64, RiscV128, SH3, SH3DSP, SH4, SH5, Thumb, WceMipsV2, Invalid}
use Rattle.pdb_dbi.specs.Machine.{machine_of, machine_number}
use Rattle.pdb_dbi.proofs.laws.number_of_machine.Goals as goal

-- a machine has this number, if it is known
abbrev Has : ℕ → MachineType → Type 0
Has n m = (m ≡ Unknown → ⊥) → machine_number m ≡ n

unknown : (n : ℕ) → Has n Unknown
unknown n h = absurd (h refl)

by_test : (n k : ℕ) (t : Bool) (m rest : MachineType) → (n == k) ≡ t → machine_number m ≡ k → Has n rest → Has n (cond t m rest)
by_test n k true m rest e is other h = is ∙ sym (eqb-true n k e)
by_test n k false m rest e is other h = other h

step : (n k : ℕ) (m rest : MachineType) → machine_number m ≡ k → Has n rest → Has n (cond (n == k) m rest)
step n k m rest is other = by_test n k (n == k) m rest refl is other

has : (n : ℕ) → Has n (machine_of n)
unfolding machine_of
has n =
    (step n 0x13 Am33 _ refl
    (step n 0x8664 Amd64 _ refl
    (step n 0x1c0 Arm _ refl
    (step n 0xaa64 Arm64 _ refl
    (step n 0x1c4 ArmNT _ refl
    (step n 0xebc Ebc _ refl
    (step n 0x14c X86 _ refl
    (step n 0x200 Ia64 _ refl
    (step n 0x9041 M32R _ refl
    (step n 0x266 Mips16 _ refl
    (step n 0x366 MipsFpu _ refl
    (step n 0x466 MipsFpu16 _ refl
    (step n 0x1f0 PowerPC _ refl
    (step n 0x1f1 PowerPCFP _ refl
    (step n 0x166 R4000 _ refl
    (step n 0x5032 RiscV32 _ refl
    (step n 0x5064 RiscV64 _ refl
    (step n 0x5128 RiscV128 _ refl
    (step n 0x1a2 SH3 _ refl
    (step n 0x1a3 SH3DSP _ refl
    (step n 0x1a6 SH4 _ refl
    (step n 0x1a8 SH5 _ refl
    (step n 0x1c2 Thumb _ refl
    (step n 0x169 WceMipsV2 _ refl
    (step n 0xffff Invalid _ refl
    (unknown n))))))))))))))))))))))))))

pub returns : goal.returns
returns c = has
