-- The names of flags.
use Rattle.std.specs.Prelude.{Bool, true, false, List, ℕ, [], ◌∷◌, ◌++◌, codes}
use Rattle.pdb_symbols.specs.Flags.{has}
use Rattle.pdb_symbols.specs.declared.flags.CompileFlags.{CompileFlags}
use Rattle.pdb_symbols.specs.declared.flags.ExportSymbolFlags.{ExportSymbolFlags}
use Rattle.pdb_symbols.specs.declared.flags.LocalVariableFlags.{LocalVariableFlags}
use Rattle.pdb_symbols.specs.declared.flags.ProcedureFlags.{ProcedureFlags}
use Rattle.pdb_symbols.specs.declared.flags.SeparatedCodeFlags.{SeparatedCodeFlags}

-- the names of the flags that are set, each behind `+`
abbrev pub more_flags : List (Bool × List ℕ) → List ℕ
more_flags [] = []
more_flags ((true, name) ∷ flags) = codes "+" ++ (name ++ more_flags flags)
more_flags ((false, name) ∷ flags) = more_flags flags

-- the names of the flags that are set, joined by `+`; `-` where none is
abbrev pub flags_text : List (Bool × List ℕ) → List ℕ
flags_text [] = codes "-"
flags_text ((true, name) ∷ flags) = name ++ more_flags flags
flags_text ((false, name) ∷ flags) = flags_text flags

-- ---- each struct's flags, from the lowest bit upwards

unfoldable pub procedure_flags : ProcedureFlags → List ℕ
procedure_flags f = flags_text ((f.nofpo, codes "nofpo") ∷ (f.int, codes "int") ∷ (f.far, codes "far") ∷ (f.never, codes "never") ∷ (f.notreached, codes "notreached") ∷ (f.cust_call, codes "cust_call") ∷ (f.noinline, codes "noinline") ∷ (f.optdbginfo, codes "optdbginfo") ∷ [])

unfoldable pub compile_flags : CompileFlags → List ℕ
compile_flags f = flags_text ((f.edit_and_continue, codes "edit_and_continue") ∷ (f.no_debug_info, codes "no_debug_info") ∷ (f.link_time_codegen, codes "link_time_codegen") ∷ (f.no_data_align, codes "no_data_align") ∷ (f.managed, codes "managed") ∷ (f.security_checks, codes "security_checks") ∷ (f.hot_patch, codes "hot_patch") ∷ (f.cvtcil, codes "cvtcil") ∷ (f.msil_module, codes "msil_module") ∷ (f.sdl, codes "sdl") ∷ (f.pgo, codes "pgo") ∷ (f.exp_module, codes "exp_module") ∷ [])

-- a bit's name is that of `CV_LVARFLAGS` in `cvinfo.h`: from the fifth bit on the field's name is another
-- bit 10 has no field, and is that of the record's word
unfoldable pub local_flags : LocalVariableFlags → ℕ → List ℕ
local_flags f word = flags_text ((f.isparam, codes "param") ∷ (f.addrtaken, codes "addrtaken") ∷ (f.compgenx, codes "compgenx") ∷ (f.isaggregate, codes "aggregate") ∷ (f.isaliased, codes "aggregated") ∷ (f.isalias, codes "aliased") ∷ (f.isretvalue, codes "alias") ∷ (f.isoptimizedout, codes "retvalue") ∷ (f.isenreg_glob, codes "optimizedout") ∷ (f.isenreg_stat, codes "enreg_glob") ∷ (has word 0x400, codes "enreg_stat") ∷ [])

unfoldable pub export_flags : ExportSymbolFlags → List ℕ
export_flags f = flags_text ((f.constant, codes "constant") ∷ (f.«data», codes "data") ∷ (f.private, codes "private") ∷ (f.no_name, codes "no_name") ∷ (f.ordinal, codes "ordinal") ∷ (f.forwarder, codes "forwarder") ∷ [])

unfoldable pub separated_code_flags : SeparatedCodeFlags → List ℕ
separated_code_flags f = flags_text ((f.islexicalscope, codes "islexicalscope") ∷ (f.returnstoparent, codes "returnstoparent") ∷ [])
