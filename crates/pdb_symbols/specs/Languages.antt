-- Languages: their numbers and names.
use Rattle.std.specs.Prelude.{ℕ, List, codes, ◌==◌, if◌then◌else◌}
use Rattle.pdb_symbols.specs.declared.language.SourceLanguage.{SourceLanguage}
use Rattle.pdb_symbols.specs.declared.language.SourceLanguage.TheVariants.{C, Cpp, Fortran, Masm, Pascal, Basic, Cobol, Link, Cvtres, Cvtpgd, CSharp, VB, ILAsm, Java, JScript, MSIL, HLSL, D}

-- the language of a number
unfoldable pub language_of : ℕ → SourceLanguage
language_of n =
    if n == 0x0 then C
    else if n == 0x1 then Cpp
    else if n == 0x2 then Fortran
    else if n == 0x4 then Pascal
    else if n == 0x5 then Basic
    else if n == 0x6 then Cobol
    else if n == 0x7 then Link
    else if n == 0x8 then Cvtres
    else if n == 0x9 then Cvtpgd
    else if n == 0xa then CSharp
    else if n == 0xb then VB
    else if n == 0xc then ILAsm
    else if n == 0xd then Java
    else if n == 0xe then JScript
    else if n == 0xf then MSIL
    else if n == 0x10 then HLSL
    else if n == 0x44 then D
    else Masm

-- the number of a language
abbrev pub language_number : SourceLanguage → ℕ
language_number C = 0x0
language_number Cpp = 0x1
language_number Fortran = 0x2
language_number Masm = 0x3
language_number Pascal = 0x4
language_number Basic = 0x5
language_number Cobol = 0x6
language_number Link = 0x7
language_number Cvtres = 0x8
language_number Cvtpgd = 0x9
language_number CSharp = 0xa
language_number VB = 0xb
language_number ILAsm = 0xc
language_number Java = 0xd
language_number JScript = 0xe
language_number MSIL = 0xf
language_number HLSL = 0x10
language_number D = 0x44

-- the name of a language
abbrev pub language_text : SourceLanguage → List ℕ
language_text C = codes "C"
language_text Cpp = codes "Cpp"
language_text Fortran = codes "Fortran"
language_text Masm = codes "Masm"
language_text Pascal = codes "Pascal"
language_text Basic = codes "Basic"
language_text Cobol = codes "Cobol"
language_text Link = codes "Link"
language_text Cvtres = codes "Cvtres"
language_text Cvtpgd = codes "Cvtpgd"
language_text CSharp = codes "CSharp"
language_text VB = codes "VB"
language_text ILAsm = codes "ILAsm"
language_text Java = codes "Java"
language_text JScript = codes "JScript"
language_text MSIL = codes "MSIL"
language_text HLSL = codes "HLSL"
language_text D = codes "D"
