-- The table of the forms: the layout of each form's records behind the kind, and what its parts say.
use Rattle.std.specs.Prelude.{ℕ, ◌≡◌, List, [], ◌∷◌, Result, Ok, ◌==◌}
use Rattle.pdb_base.specs.declared.error.Error.{Error}
use Rattle.pdb_base.specs.Refusal.{◌>>=◌}
use Rattle.pdb_symbols.specs.declared.form.Form.{Form}
use Rattle.pdb_symbols.specs.declared.form.Form.TheVariants as form
use Rattle.pdb_symbols.specs.Data.{Data}
use Rattle.pdb_symbols.specs.Data.Data.{ScopeEnd, ObjName, RegisterVariable, Constant, UserDefinedType, MultiRegisterVariable, DataItem, Public, Procedure, ThreadStorage, Compiler, UsingNamespace, ProcedureReference, DataReference, AnnotationReference, Trampoline, Export, Local, BuildInfo, InlineSite, InlineSiteEnd, ProcedureEnd, Label, Block, RegisterRelative, Thunk, SeparatedCode}
use Rattle.pdb_symbols.specs.Flags.{has}
use Rattle.pdb_symbols.specs.Groups.{symbol_index, type_index, id_index, register, typed_value, local_flags, register_count, named_register, procedure_flags, scope, body, typed, span, site, invocation_count, separated_code_flags, two_places, thunk_head, thunk_does, trampoline_type, export_flags, compiled_for, versions}
use Rattle.pdb_symbols.specs.Kinds.{is_in}
use Rattle.pdb_base.specs.Layouts.{Part, ◌▷◌, behind, times, nothing, number, number_as, signed, rest}
use Rattle.pdb_symbols.specs.Parts.{offset, name, optional_name}
use Rattle.pdb_symbols.specs.Parts.{module_of}

-- a form: how its records are laid out behind the kind, and what their parts say in a record of a kind
pub record Laid : Type 1 where
  pub Parts : Type 0
  pub layout : Part Parts
  pub says : ℕ → Parts → Data

abbrev lay : {A : Type 0} → Part A → (ℕ → A → Data) → Laid
lay {A} p f = record { Parts = A; layout = p; says = f }

-- ---- the table

abbrev pub laid : Form → Laid
laid form.ScopeEnd = lay nothing (λ kind _. ScopeEnd)
laid form.InlineSiteEnd = lay nothing (λ kind _. InlineSiteEnd)
laid form.ProcedureEnd = lay nothing (λ kind _. ProcedureEnd)
-- data and types
laid form.Public = lay (number 4 ▷ offset ▷ name)
    (λ kind (flags, (offset, name)). Public (has flags 1) (has flags 2) (has flags 4) (has flags 8) offset name)
laid form.UserDefinedType = lay (type_index ▷ name)
    (λ kind (type_index, name). UserDefinedType type_index name)
laid form.Constant = lay (typed_value ▷ name)
    (λ kind ((type_index, value), name). Constant (kind == 0x112d) type_index value name)
laid form.Data = lay (type_index ▷ offset ▷ name)
    (λ kind (type_index, (offset, name)). DataItem (is_in (0x110d ∷ 0x1008 ∷ 0x111d ∷ 0x1021 ∷ []) kind) (is_in (0x111c ∷ 0x1020 ∷ 0x111d ∷ 0x1021 ∷ []) kind) type_index offset name)
laid form.ThreadStorage = lay (type_index ▷ offset ▷ name)
    (λ kind (type_index, (offset, name)). ThreadStorage (is_in (0x1113 ∷ 0x100f ∷ []) kind) type_index offset name)
laid form.RegisterVariable = lay (type_index ▷ register ▷ name)
    (λ kind (type_index, (register, name)). RegisterVariable type_index register name)
laid form.MultiRegisterVariable = lay (type_index ▷ behind register_count (λ count. times count named_register))
    (λ kind (type_index, (count, registers)). MultiRegisterVariable type_index registers)
laid form.RegisterRelative = lay (signed ▷ type_index ▷ register ▷ name)
    (λ kind (offset, (type_index, (register, name))). RegisterRelative offset type_index register name)
laid form.Local = lay (type_index ▷ local_flags ▷ name)
    (λ kind (type_index, (flags, name)). Local type_index flags name)
-- references
laid form.ProcedureReference = lay (number 4 ▷ symbol_index ▷ number_as 2 module_of ▷ optional_name)
    (λ kind (sum_name, (symbol_index, (of_module, name))). ProcedureReference (is_in (0x1125 ∷ 0x0400 ∷ []) kind) sum_name symbol_index of_module name)
laid form.DataReference = lay (number 4 ▷ symbol_index ▷ number_as 2 module_of ▷ optional_name)
    (λ kind (sum_name, (symbol_index, (of_module, name))). DataReference sum_name symbol_index of_module name)
laid form.AnnotationReference = lay (number 4 ▷ symbol_index ▷ number_as 2 module_of ▷ name)
    (λ kind (sum_name, (symbol_index, (of_module, name))). AnnotationReference sum_name symbol_index of_module name)
-- procedures and scopes
laid form.Procedure = lay (scope ▷ body ▷ typed ▷ name)
    (λ kind ((parent, (end, next)), ((len, (start, stop)), ((type_index, (offset, flags)), name))). Procedure (record {
      global = is_in (0x1110 ∷ 0x100b ∷ 0x1147 ∷ []) kind;
      dpc = is_in (0x1155 ∷ 0x1156 ∷ []) kind;
      parent = parent;
      end = end;
      next = next;
      len = len;
      dbg_start_offset = start;
      dbg_end_offset = stop;
      type_index = type_index;
      offset = offset;
      flags = flags;
      name = name;
    }))
laid form.InlineSite = lay (site ▷ invocation_count ▷ rest)
    (λ kind ((parent, (end, inlinee)), (invocations, annotations)). InlineSite (record {
      parent = parent;
      end = end;
      inlinee = inlinee;
      invocations = invocations;
      annotations = annotations;
    }))
laid form.Label = lay (offset ▷ procedure_flags ▷ name)
    (λ kind (offset, (flags, name)). Label offset flags name)
laid form.Block = lay (span ▷ offset ▷ name)
    (λ kind ((parent, (end, len)), (offset, name)). Block parent end len offset name)
laid form.SeparatedCode = lay (span ▷ separated_code_flags ▷ two_places)
    (λ kind ((parent, (end, len)), (flags, (first, (second, (section, second_section))))). SeparatedCode (record {
      parent = parent;
      end = end;
      len = len;
      flags = flags;
      offset = record { offset = first; section = section };
      parent_offset = record { offset = second; section = second_section };
    }))
laid form.Thunk = lay (behind thunk_head (λ h. name ▷ thunk_does h.1.1.1))
    (λ kind (((parent, (end, next)), (offset, (len, ordinal))), (name, does)). Thunk (record {
      parent = parent;
      end = end;
      next = next;
      offset = offset;
      len = len;
      does = does;
      name = name;
    }))
laid form.Trampoline = lay (trampoline_type ▷ number 2 ▷ two_places)
    (λ kind (tramp_type, (size, (first, (second, (section, second_section))))). Trampoline (record {
      tramp_type = tramp_type;
      size = size;
      thunk = record { offset = first; section = section };
      target = record { offset = second; section = second_section };
    }))
-- modules and compilers
laid form.ObjName = lay (number 4 ▷ name)
    (λ kind (signature, name). ObjName signature name)
laid form.CompileFlags = lay (compiled_for ▷ versions ▷ name)
    (λ kind ((language, (flags, (unused, cpu_type))), ((((major, (minor, build)), qfe), ((back_major, (back_minor, back_build)), back_qfe)), version_string)). Compiler (record {
      language = language;
      flags = flags;
      cpu_type = cpu_type;
      frontend_version = record { major = major; minor = minor; build = build; qfe = qfe };
      backend_version = record { major = back_major; minor = back_minor; build = back_build; qfe = back_qfe };
      version_string = version_string;
    }))
laid form.UsingNamespace = lay name (λ kind name. UsingNamespace name)
laid form.Export = lay (number 2 ▷ export_flags ▷ name)
    (λ kind (ordinal, (flags, name)). Export ordinal flags name)
laid form.BuildInfo = lay id_index (λ kind id. BuildInfo (record { id = id }))

-- a record of a form and a kind, of bytes b, says d
abbrev pub IsOf : Form → ℕ → List ℕ → Data → Type 0
IsOf f kind b d = (s : (laid f).Parts) × (laid f).layout.Stands kind b 2 s × (d ≡ (laid f).says kind s)

-- what is read of it, or the refusal
unfoldable pub read_of : Form → ℕ → List ℕ → Result Data Error
read_of f kind b = (laid f).layout.at kind b 2 >>= (λ s. Ok ((laid f).says kind s))
