-- The names of processors and of languages, by their numbers.
use Rattle.std.specs.Prelude.{ℕ, List, [], ◌∷◌, Option, codes, nat_lt, if◌then◌else◌}
use Rattle.pdb_records.specs.NameRows.{name_in}

abbrev pub low_processor_rows : List (ℕ × List ℕ)
low_processor_rows =
    (0x0, codes "Intel8080") ∷
    (0x1, codes "Intel8086") ∷
    (0x2, codes "Intel80286") ∷
    (0x3, codes "Intel80386") ∷
    (0x4, codes "Intel80486") ∷
    (0x5, codes "Pentium") ∷
    (0x6, codes "PentiumPro") ∷
    (0x7, codes "Pentium3") ∷
    (0x10, codes "MIPS") ∷
    (0x11, codes "MIPS16") ∷
    (0x12, codes "MIPS32") ∷
    (0x13, codes "MIPS64") ∷
    (0x14, codes "MIPSI") ∷
    (0x15, codes "MIPSII") ∷
    (0x16, codes "MIPSIII") ∷
    (0x17, codes "MIPSIV") ∷
    (0x18, codes "MIPSV") ∷
    (0x20, codes "M68000") ∷
    (0x21, codes "M68010") ∷
    (0x22, codes "M68020") ∷
    (0x23, codes "M68030") ∷
    (0x24, codes "M68040") ∷
    (0x30, codes "Alpha") ∷
    (0x31, codes "Alpha21164") ∷
    (0x32, codes "Alpha21164A") ∷
    (0x33, codes "Alpha21264") ∷
    (0x34, codes "Alpha21364") ∷
    (0x40, codes "PPC601") ∷
    (0x41, codes "PPC603") ∷
    (0x42, codes "PPC604") ∷
    (0x43, codes "PPC620") ∷
    (0x44, codes "PPCFP") ∷
    (0x45, codes "PPCBE") ∷
    []

abbrev pub high_processor_rows : List (ℕ × List ℕ)
high_processor_rows =
    (0x50, codes "SH3") ∷
    (0x51, codes "SH3E") ∷
    (0x52, codes "SH3DSP") ∷
    (0x53, codes "SH4") ∷
    (0x54, codes "SHMedia") ∷
    (0x60, codes "ARM3") ∷
    (0x61, codes "ARM4") ∷
    (0x62, codes "ARM4T") ∷
    (0x63, codes "ARM5") ∷
    (0x64, codes "ARM5T") ∷
    (0x65, codes "ARM6") ∷
    (0x66, codes "ARM_XMAC") ∷
    (0x67, codes "ARM_WMMX") ∷
    (0x68, codes "ARM7") ∷
    (0x70, codes "Omni") ∷
    (0x80, codes "Ia64") ∷
    (0x81, codes "Ia64_2") ∷
    (0x90, codes "CEE") ∷
    (0xa0, codes "AM33") ∷
    (0xb0, codes "M32R") ∷
    (0xc0, codes "TriCore") ∷
    (0xd0, codes "X64") ∷
    (0xe0, codes "EBC") ∷
    (0xf0, codes "Thumb") ∷
    (0xf4, codes "ARMNT") ∷
    (0xf6, codes "ARM64") ∷
    (0xf7, codes "HybridX86ARM64") ∷
    (0xf8, codes "ARM64EC") ∷
    (0xf9, codes "ARM64X") ∷
    (0xff, codes "Unknown") ∷
    (0x100, codes "D3D11_Shader") ∷
    []

-- the name of a processor's number
abbrev pub processor_name_of : ℕ → Option (List ℕ)
processor_name_of n = if nat_lt n 0x50 then name_in low_processor_rows n else name_in high_processor_rows n

abbrev pub language_rows : List (ℕ × List ℕ)
language_rows =
    (0x0, codes "C") ∷
    (0x1, codes "Cpp") ∷
    (0x2, codes "Fortran") ∷
    (0x3, codes "Masm") ∷
    (0x4, codes "Pascal") ∷
    (0x5, codes "Basic") ∷
    (0x6, codes "Cobol") ∷
    (0x7, codes "Link") ∷
    (0x8, codes "Cvtres") ∷
    (0x9, codes "Cvtpgd") ∷
    (0xa, codes "CSharp") ∷
    (0xb, codes "VB") ∷
    (0xc, codes "ILAsm") ∷
    (0xd, codes "Java") ∷
    (0xe, codes "JScript") ∷
    (0xf, codes "MSIL") ∷
    (0x10, codes "HLSL") ∷
    (0x11, codes "ObjC") ∷
    (0x12, codes "ObjCpp") ∷
    (0x13, codes "Swift") ∷
    (0x14, codes "AliasObj") ∷
    (0x15, codes "Rust") ∷
    (0x16, codes "Go") ∷
    (0x44, codes "D") ∷
    (0x53, codes "OldSwift") ∷
    []
