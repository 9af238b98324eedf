use Rattle.std.proofs.Common.{refl}
use Rattle.pdb_symbols.specs.declared.processor.CPUType.TheVariants as cpu
use Rattle.pdb_symbols.specs.declared.language.SourceLanguage.TheVariants as language
use Rattle.pdb_symbols.specs.Processors.{cpu_of, lower_cpu, low_cpu, high_cpu, higher_cpu}
use Rattle.pdb_symbols.specs.Languages.{language_of}
use Rattle.pdb_symbols.proofs.laws.enum_numbers_round_trip.Goals as goal

pub returns-clause-processors : goal.returns-clause-processors
unfolding cpu_of lower_cpu low_cpu high_cpu higher_cpu
returns-clause-processors c cpu.Intel8080 = refl
returns-clause-processors c cpu.Intel8086 = refl
returns-clause-processors c cpu.Intel80286 = refl
returns-clause-processors c cpu.Intel80386 = refl
returns-clause-processors c cpu.Intel80486 = refl
returns-clause-processors c cpu.Pentium = refl
returns-clause-processors c cpu.PentiumPro = refl
returns-clause-processors c cpu.Pentium3 = refl
returns-clause-processors c cpu.MIPS = refl
returns-clause-processors c cpu.MIPS16 = refl
returns-clause-processors c cpu.MIPS32 = refl
returns-clause-processors c cpu.MIPS64 = refl
returns-clause-processors c cpu.MIPSI = refl
returns-clause-processors c cpu.MIPSII = refl
returns-clause-processors c cpu.MIPSIII = refl
returns-clause-processors c cpu.MIPSIV = refl
returns-clause-processors c cpu.MIPSV = refl
returns-clause-processors c cpu.M68000 = refl
returns-clause-processors c cpu.M68010 = refl
returns-clause-processors c cpu.M68020 = refl
returns-clause-processors c cpu.M68030 = refl
returns-clause-processors c cpu.M68040 = refl
returns-clause-processors c cpu.Alpha = refl
returns-clause-processors c cpu.Alpha21164 = refl
returns-clause-processors c cpu.Alpha21164A = refl
returns-clause-processors c cpu.Alpha21264 = refl
returns-clause-processors c cpu.Alpha21364 = refl
returns-clause-processors c cpu.PPC601 = refl
returns-clause-processors c cpu.PPC603 = refl
returns-clause-processors c cpu.PPC604 = refl
returns-clause-processors c cpu.PPC620 = refl
returns-clause-processors c cpu.PPCFP = refl
returns-clause-processors c cpu.PPCBE = refl
returns-clause-processors c cpu.SH3 = refl
returns-clause-processors c cpu.SH3E = refl
returns-clause-processors c cpu.SH3DSP = refl
returns-clause-processors c cpu.SH4 = refl
returns-clause-processors c cpu.SHMedia = refl
returns-clause-processors c cpu.ARM3 = refl
returns-clause-processors c cpu.ARM4 = refl
returns-clause-processors c cpu.ARM4T = refl
returns-clause-processors c cpu.ARM5 = refl
returns-clause-processors c cpu.ARM5T = refl
returns-clause-processors c cpu.ARM6 = refl
returns-clause-processors c cpu.ARM_XMAC = refl
returns-clause-processors c cpu.ARM_WMMX = refl
returns-clause-processors c cpu.ARM7 = refl
returns-clause-processors c cpu.ARM64 = refl
returns-clause-processors c cpu.Omni = refl
returns-clause-processors c cpu.Ia64 = refl
returns-clause-processors c cpu.Ia64_2 = refl
returns-clause-processors c cpu.CEE = refl
returns-clause-processors c cpu.AM33 = refl
returns-clause-processors c cpu.M32R = refl
returns-clause-processors c cpu.TriCore = refl
returns-clause-processors c cpu.X64 = refl
returns-clause-processors c cpu.EBC = refl
returns-clause-processors c cpu.Thumb = refl
returns-clause-processors c cpu.ARMNT = refl
returns-clause-processors c cpu.D3D11_Shader = refl

pub returns-clause-languages : goal.returns-clause-languages
unfolding language_of
returns-clause-languages c language.C = refl
returns-clause-languages c language.Cpp = refl
returns-clause-languages c language.Fortran = refl
returns-clause-languages c language.Masm = refl
returns-clause-languages c language.Pascal = refl
returns-clause-languages c language.Basic = refl
returns-clause-languages c language.Cobol = refl
returns-clause-languages c language.Link = refl
returns-clause-languages c language.Cvtres = refl
returns-clause-languages c language.Cvtpgd = refl
returns-clause-languages c language.CSharp = refl
returns-clause-languages c language.VB = refl
returns-clause-languages c language.ILAsm = refl
returns-clause-languages c language.Java = refl
returns-clause-languages c language.JScript = refl
returns-clause-languages c language.MSIL = refl
returns-clause-languages c language.HLSL = refl
returns-clause-languages c language.D = refl
