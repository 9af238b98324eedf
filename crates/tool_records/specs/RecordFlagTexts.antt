-- The names of flags of further records, from the lowest bit upwards.
use Rattle.std.specs.Prelude.{Bool, List, ℕ, [], ◌∷◌, codes}
use Rattle.pdb_records.specs.declared.flags.FrameFlags.{FrameFlags}
use Rattle.pdb_records.specs.declared.flags.MiniReferenceFlags.{MiniReferenceFlags}
use Rattle.pdb_records.specs.declared.flags.ModuleTypeFlags.{ModuleTypeFlags}
use Rattle.pdb_records.specs.declared.flags.VariableFlags.{VariableFlags}
use Rattle.tool_fields.specs.Flags.{flags_text}

unfoldable pub frame_flags : FrameFlags → List ℕ
frame_flags f = flags_text ((f.alloca, codes "alloca") ∷ (f.setjmp, codes "setjmp") ∷ (f.longjmp, codes "longjmp") ∷ (f.inline_asm, codes "inline_asm") ∷ (f.eh, codes "eh") ∷ (f.inline_spec, codes "inline_spec") ∷ (f.seh, codes "seh") ∷ (f.naked, codes "naked") ∷ (f.security_checks, codes "security_checks") ∷ (f.async_eh, codes "async_eh") ∷ (f.gs_no_stack_ordering, codes "gs_no_stack_ordering") ∷ (f.was_inlined, codes "was_inlined") ∷ (f.gs_check, codes "gs_check") ∷ (f.safe_buffers, codes "safe_buffers") ∷ (f.pogo_on, codes "pogo_on") ∷ (f.valid_counts, codes "valid_counts") ∷ (f.opt_speed, codes "opt_speed") ∷ (f.guard_cf, codes "guard_cf") ∷ (f.guard_cfw, codes "guard_cfw") ∷ [])

unfoldable pub variable_flags : VariableFlags → List ℕ
variable_flags f = flags_text ((f.param, codes "param") ∷ (f.addrtaken, codes "addrtaken") ∷ (f.compgenx, codes "compgenx") ∷ (f.aggregate, codes "aggregate") ∷ (f.aggregated, codes "aggregated") ∷ (f.aliased, codes "aliased") ∷ (f.alias, codes "alias") ∷ (f.retvalue, codes "retvalue") ∷ (f.optimizedout, codes "optimizedout") ∷ (f.enreg_glob, codes "enreg_glob") ∷ (f.enreg_stat, codes "enreg_stat") ∷ [])

unfoldable pub module_type_flags : ModuleTypeFlags → List ℕ
module_type_flags f = flags_text ((f.none, codes "none") ∷ (f.ref_tmpct, codes "ref_tmpct") ∷ (f.own_tmpct, codes "own_tmpct") ∷ (f.own_tmr, codes "own_tmr") ∷ (f.own_tm, codes "own_tm") ∷ (f.ref_tm, codes "ref_tm") ∷ [])

unfoldable pub mini_reference_flags : MiniReferenceFlags → List ℕ
mini_reference_flags f = flags_text ((f.local, codes "local") ∷ (f.«data», codes "data") ∷ (f.udt, codes "udt") ∷ (f.label, codes "label") ∷ (f.constant, codes "const") ∷ [])

-- those of an environment: bit 0 alone
unfoldable pub environment_flags : Bool → List ℕ
environment_flags rev = flags_text ((rev, codes "rev") ∷ [])
