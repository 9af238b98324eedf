-- Processors: their numbers and names.
use Rattle.std.specs.Prelude.{ℕ, List, codes, ◌==◌, nat_lt, if◌then◌else◌}
use Rattle.pdb_symbols.specs.declared.processor.CPUType.{CPUType}
use Rattle.pdb_symbols.specs.declared.processor.CPUType.TheVariants.{Intel8080, Intel8086, Intel80286, Intel80386, Intel80486, Pentium, PentiumPro, Pentium3, MIPS, MIPS16, MIPS32, MIPS64, MIPSI, MIPSII, MIPSIII, MIPSIV, MIPSV, M68000, M68010, M68020, M68030, M68040, Alpha, Alpha21164, Alpha21164A, Alpha21264, Alpha21364, PPC601, PPC603, PPC604, PPC620, PPCFP, PPCBE, SH3, SH3E, SH3DSP, SH4, SHMedia, ARM3, ARM4, ARM4T, ARM5, ARM5T, ARM6, ARM_XMAC, ARM_WMMX, ARM7, ARM64, Omni, Ia64, Ia64_2, CEE, AM33, M32R, TriCore, X64, EBC, Thumb, ARMNT, D3D11_Shader}

unfoldable pub lower_cpu : ℕ → CPUType
lower_cpu n =
    if n == 0x1 then Intel8086
    else if n == 0x2 then Intel80286
    else if n == 0x3 then Intel80386
    else if n == 0x4 then Intel80486
    else if n == 0x5 then Pentium
    else if n == 0x6 then PentiumPro
    else if n == 0x7 then Pentium3
    else if n == 0x10 then MIPS
    else if n == 0x11 then MIPS16
    else if n == 0x12 then MIPS32
    else if n == 0x13 then MIPS64
    else if n == 0x14 then MIPSI
    else if n == 0x15 then MIPSII
    else if n == 0x16 then MIPSIII
    else if n == 0x17 then MIPSIV
    else if n == 0x18 then MIPSV
    else Intel8080

unfoldable pub low_cpu : ℕ → CPUType
low_cpu n =
    if n == 0x20 then M68000
    else if n == 0x21 then M68010
    else if n == 0x22 then M68020
    else if n == 0x23 then M68030
    else if n == 0x24 then M68040
    else if n == 0x30 then Alpha
    else if n == 0x31 then Alpha21164
    else if n == 0x32 then Alpha21164A
    else if n == 0x33 then Alpha21264
    else if n == 0x34 then Alpha21364
    else if n == 0x40 then PPC601
    else if n == 0x41 then PPC603
    else if n == 0x42 then PPC604
    else if n == 0x43 then PPC620
    else if n == 0x44 then PPCFP
    else if n == 0x45 then PPCBE
    else Intel8080

unfoldable pub high_cpu : ℕ → CPUType
high_cpu n =
    if n == 0x50 then SH3
    else if n == 0x51 then SH3E
    else if n == 0x52 then SH3DSP
    else if n == 0x53 then SH4
    else if n == 0x54 then SHMedia
    else if n == 0x60 then ARM3
    else if n == 0x61 then ARM4
    else if n == 0x62 then ARM4T
    else if n == 0x63 then ARM5
    else if n == 0x64 then ARM5T
    else if n == 0x65 then ARM6
    else if n == 0x66 then ARM_XMAC
    else if n == 0x67 then ARM_WMMX
    else if n == 0x68 then ARM7
    else if n == 0x69 then ARM64
    else Intel8080

unfoldable pub higher_cpu : ℕ → CPUType
higher_cpu n =
    if n == 0x70 then Omni
    else if n == 0x80 then Ia64
    else if n == 0x81 then Ia64_2
    else if n == 0x90 then CEE
    else if n == 0xa0 then AM33
    else if n == 0xb0 then M32R
    else if n == 0xc0 then TriCore
    else if n == 0xd0 then X64
    else if n == 0xe0 then EBC
    else if n == 0xf0 then Thumb
    else if n == 0xf4 then ARMNT
    else if n == 0x100 then D3D11_Shader
    else Intel8080

-- the processor of a number
unfoldable pub cpu_of : ℕ → CPUType
cpu_of n =
    if nat_lt n 0x20 then lower_cpu n
    else if nat_lt n 0x50 then low_cpu n
    else if nat_lt n 0x70 then high_cpu n
    else higher_cpu n

-- the number of a processor
abbrev pub cpu_number : CPUType → ℕ
cpu_number Intel8080 = 0x0
cpu_number Intel8086 = 0x1
cpu_number Intel80286 = 0x2
cpu_number Intel80386 = 0x3
cpu_number Intel80486 = 0x4
cpu_number Pentium = 0x5
cpu_number PentiumPro = 0x6
cpu_number Pentium3 = 0x7
cpu_number MIPS = 0x10
cpu_number MIPS16 = 0x11
cpu_number MIPS32 = 0x12
cpu_number MIPS64 = 0x13
cpu_number MIPSI = 0x14
cpu_number MIPSII = 0x15
cpu_number MIPSIII = 0x16
cpu_number MIPSIV = 0x17
cpu_number MIPSV = 0x18
cpu_number M68000 = 0x20
cpu_number M68010 = 0x21
cpu_number M68020 = 0x22
cpu_number M68030 = 0x23
cpu_number M68040 = 0x24
cpu_number Alpha = 0x30
cpu_number Alpha21164 = 0x31
cpu_number Alpha21164A = 0x32
cpu_number Alpha21264 = 0x33
cpu_number Alpha21364 = 0x34
cpu_number PPC601 = 0x40
cpu_number PPC603 = 0x41
cpu_number PPC604 = 0x42
cpu_number PPC620 = 0x43
cpu_number PPCFP = 0x44
cpu_number PPCBE = 0x45
cpu_number SH3 = 0x50
cpu_number SH3E = 0x51
cpu_number SH3DSP = 0x52
cpu_number SH4 = 0x53
cpu_number SHMedia = 0x54
cpu_number ARM3 = 0x60
cpu_number ARM4 = 0x61
cpu_number ARM4T = 0x62
cpu_number ARM5 = 0x63
cpu_number ARM5T = 0x64
cpu_number ARM6 = 0x65
cpu_number ARM_XMAC = 0x66
cpu_number ARM_WMMX = 0x67
cpu_number ARM7 = 0x68
cpu_number ARM64 = 0x69
cpu_number Omni = 0x70
cpu_number Ia64 = 0x80
cpu_number Ia64_2 = 0x81
cpu_number CEE = 0x90
cpu_number AM33 = 0xa0
cpu_number M32R = 0xb0
cpu_number TriCore = 0xc0
cpu_number X64 = 0xd0
cpu_number EBC = 0xe0
cpu_number Thumb = 0xf0
cpu_number ARMNT = 0xf4
cpu_number D3D11_Shader = 0x100

-- the name of a processor
abbrev pub cpu_text : CPUType → List ℕ
cpu_text Intel8080 = codes "Intel8080"
cpu_text Intel8086 = codes "Intel8086"
cpu_text Intel80286 = codes "Intel80286"
cpu_text Intel80386 = codes "Intel80386"
cpu_text Intel80486 = codes "Intel80486"
cpu_text Pentium = codes "Pentium"
cpu_text PentiumPro = codes "PentiumPro"
cpu_text Pentium3 = codes "Pentium3"
cpu_text MIPS = codes "MIPS"
cpu_text MIPS16 = codes "MIPS16"
cpu_text MIPS32 = codes "MIPS32"
cpu_text MIPS64 = codes "MIPS64"
cpu_text MIPSI = codes "MIPSI"
cpu_text MIPSII = codes "MIPSII"
cpu_text MIPSIII = codes "MIPSIII"
cpu_text MIPSIV = codes "MIPSIV"
cpu_text MIPSV = codes "MIPSV"
cpu_text M68000 = codes "M68000"
cpu_text M68010 = codes "M68010"
cpu_text M68020 = codes "M68020"
cpu_text M68030 = codes "M68030"
cpu_text M68040 = codes "M68040"
cpu_text Alpha = codes "Alpha"
cpu_text Alpha21164 = codes "Alpha21164"
cpu_text Alpha21164A = codes "Alpha21164A"
cpu_text Alpha21264 = codes "Alpha21264"
cpu_text Alpha21364 = codes "Alpha21364"
cpu_text PPC601 = codes "PPC601"
cpu_text PPC603 = codes "PPC603"
cpu_text PPC604 = codes "PPC604"
cpu_text PPC620 = codes "PPC620"
cpu_text PPCFP = codes "PPCFP"
cpu_text PPCBE = codes "PPCBE"
cpu_text SH3 = codes "SH3"
cpu_text SH3E = codes "SH3E"
cpu_text SH3DSP = codes "SH3DSP"
cpu_text SH4 = codes "SH4"
cpu_text SHMedia = codes "SHMedia"
cpu_text ARM3 = codes "ARM3"
cpu_text ARM4 = codes "ARM4"
cpu_text ARM4T = codes "ARM4T"
cpu_text ARM5 = codes "ARM5"
cpu_text ARM5T = codes "ARM5T"
cpu_text ARM6 = codes "ARM6"
cpu_text ARM_XMAC = codes "ARM_XMAC"
cpu_text ARM_WMMX = codes "ARM_WMMX"
cpu_text ARM7 = codes "ARM7"
cpu_text ARM64 = codes "ARM64"
cpu_text Omni = codes "Omni"
cpu_text Ia64 = codes "Ia64"
cpu_text Ia64_2 = codes "Ia64_2"
cpu_text CEE = codes "CEE"
cpu_text AM33 = codes "AM33"
cpu_text M32R = codes "M32R"
cpu_text TriCore = codes "TriCore"
cpu_text X64 = codes "X64"
cpu_text EBC = codes "EBC"
cpu_text Thumb = codes "Thumb"
cpu_text ARMNT = codes "ARMNT"
cpu_text D3D11_Shader = codes "D3D11_Shader"
