-- Flags: which bit of a number says what.
use Rattle.std.specs.Prelude.{ℕ, ◌+◌, Bool, not, ◌&&◌, ◌==◌, bit_and, if◌then◌else◌}
use Rattle.pdb_symbols.specs.declared.flags.ProcedureFlags.{ProcedureFlags}
use Rattle.pdb_symbols.specs.declared.flags.CompileFlags.{CompileFlags}
use Rattle.pdb_symbols.specs.declared.flags.LocalVariableFlags.{LocalVariableFlags}
use Rattle.pdb_symbols.specs.declared.flags.ExportSymbolFlags.{ExportSymbolFlags}
use Rattle.pdb_symbols.specs.declared.flags.SeparatedCodeFlags.{SeparatedCodeFlags}

-- a bit of the flags is set
abbrev pub has : ℕ → ℕ → Bool
has flags bit = not (bit_and flags bit == 0)

unfoldable pub procedure_flags_of : ℕ → ProcedureFlags
procedure_flags_of n = record {
  nofpo = has n 1;
  int = has n 2;
  far = has n 4;
  never = has n 8;
  notreached = has n 16;
  cust_call = has n 32;
  noinline = has n 64;
  optdbginfo = has n 128;
}

-- the last three are in records of kind 0x113c alone
unfoldable pub compile_flags_of : ℕ → ℕ → CompileFlags
compile_flags_of kind n = record {
  edit_and_continue = has n 1;
  no_debug_info = has n 2;
  link_time_codegen = has n 4;
  no_data_align = has n 8;
  managed = has n 16;
  security_checks = has n 32;
  hot_patch = has n 64;
  cvtcil = has n 128;
  msil_module = has n 256;
  sdl = kind == 0x113c && has n 512;
  pgo = kind == 0x113c && has n 1024;
  exp_module = kind == 0x113c && has n 2048;
}

unfoldable pub local_flags_of : ℕ → LocalVariableFlags
local_flags_of n = record {
  isparam = has n 1;
  addrtaken = has n 2;
  compgenx = has n 4;
  isaggregate = has n 8;
  isaliased = has n 16;
  isalias = has n 32;
  isretvalue = has n 64;
  isoptimizedout = has n 128;
  isenreg_glob = has n 256;
  isenreg_stat = has n 512;
}

unfoldable pub export_flags_of : ℕ → ExportSymbolFlags
export_flags_of n = record {
  constant = has n 1;
  «data» = has n 2;
  private = has n 4;
  no_name = has n 8;
  ordinal = has n 16;
  forwarder = has n 32;
}

unfoldable pub separated_code_flags_of : ℕ → SeparatedCodeFlags
separated_code_flags_of n = record { islexicalscope = has n 1; returnstoparent = has n 2 }

-- a number's bit: the bit where the flag is set
abbrev pub bit_of : Bool → ℕ → ℕ
bit_of flag bit = if flag then bit else 0

-- the number of these flags
abbrev pub export_bits : ExportSymbolFlags → ℕ
export_bits f = bit_of f.constant 1 + bit_of f.«data» 2 + bit_of f.private 4 + bit_of f.no_name 8 + bit_of f.ordinal 16 + bit_of f.forwarder 32
