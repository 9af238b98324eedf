-- The table of the further records: the layout of each form behind the kind, and what its parts say.
use Rattle.std.specs.Prelude.{ℕ, ◌*◌, ◌%◌, ◌≡◌, List, [], ◌∷◌, take, Result, Ok}
use Rattle.pdb_base.specs.declared.error.Error.{Error}
use Rattle.pdb_base.specs.Refusal.{◌>>=◌}
use Rattle.pdb_base.specs.Layouts.{Part, ◌▷◌, nothing, number, number_as, signed, slice, rest}
use Rattle.pdb_symbols.specs.Flags.{has}
use Rattle.pdb_symbols.specs.Groups.{type_index, id_index, symbol_index, register, scope, body, two_places}
use Rattle.pdb_symbols.specs.Kinds.{is_in}
use Rattle.pdb_symbols.specs.Parts.{offset, name, module_of}
use Rattle.pdb_records.specs.declared.form.RecordForm.{RecordForm}
use Rattle.pdb_records.specs.declared.form.RecordForm.TheVariants as form
use Rattle.pdb_records.specs.RecordFlags.{frame_flags_of, local_base_of, parameter_base_of, subfield_of, cookie_of, entry_kind_of, relation_of, module_type_flags_of, mini_reference_flags_of, discard_of}
use Rattle.pdb_records.specs.RecordLists.{gaps_of, numbers_of, tags_of}
use Rattle.pdb_records.specs.RecordParts.{signed_wide, names, ranged, register_and_word, frame_sizes, static_head, site_of_type, counted_ids, table_base, group_place, section_head, section_span, counted_names, managed, shared_head, with_span, attributes, place_by_register}
use Rattle.pdb_records.specs.RecordSays.{Says}
use Rattle.pdb_records.specs.RecordSays.Says.{FrameProcedure, BasePointerRelative, DefRange, DefRangeSubfield, DefRangeRegister, DefRangeFramePointerRelative, DefRangeSubfieldRegister, DefRangeFramePointerRelativeFullScope, DefRangeRegisterRelative, FileStatic, FrameCookieSays, CallSite, HeapAllocation, FunctionList, Jumps, CoffGroup, Section, EnvironmentBlock, Annotation, Pogo, HotPatchFunction, ManagedProcedure, TokenReference, Oem, LocalGroupShared, PointerTagMap, RegisterRelativeOld, With, TablePath, TypeReference, MiniReference, Discarded, Compile, Search, EndOfArguments, Slot, ManagedSlot, ManagedFrameRelative, ManagedRegister, ManagedRegisterRelative}

-- a form: how its records are laid out behind the kind, and what their parts say in a record of a kind
pub record LaidRecord : Type 1 where
  pub Parts : Type 0
  pub layout : Part Parts
  pub says : ℕ → Parts → Says

abbrev lay : {A : Type 0} → Part A → (ℕ → A → Says) → LaidRecord
lay {A} p f = record { Parts = A; layout = p; says = f }

-- ---- the table

abbrev pub laid_record : RecordForm → LaidRecord
-- variables, and where they live
laid_record form.BasePointerRelative = lay (signed ▷ type_index ▷ name)
    (λ kind (offset, (type_index, name)). BasePointerRelative offset type_index name)
laid_record form.FileStatic = lay (static_head ▷ name)
    (λ kind ((type_index, (module_file, flags)), name). FileStatic type_index module_file flags name)
laid_record form.DefRange = lay (number 4 ▷ ranged)
    (λ kind (program, ((start, len), gaps)). DefRange program (record { start = start; len = len }) (gaps_of gaps))
laid_record form.DefRangeSubfield = lay (number 4 ▷ number 4 ▷ ranged)
    (λ kind (program, (offset_in_parent, ((start, len), gaps))). DefRangeSubfield program offset_in_parent (record { start = start; len = len }) (gaps_of gaps))
laid_record form.DefRangeRegister = lay (register_and_word ▷ ranged)
    (λ kind ((register, attributes), ((start, len), gaps)). DefRangeRegister register (has attributes 1) (record { start = start; len = len }) (gaps_of gaps))
laid_record form.DefRangeFramePointerRelative = lay (signed ▷ ranged)
    (λ kind (offset, ((start, len), gaps)). DefRangeFramePointerRelative offset (record { start = start; len = len }) (gaps_of gaps))
laid_record form.DefRangeSubfieldRegister = lay (register_and_word ▷ number 4 ▷ ranged)
    (λ kind ((register, attributes), (word, ((start, len), gaps))). DefRangeSubfieldRegister register (has attributes 1) (word % 0x1000) (record { start = start; len = len }) (gaps_of gaps))
laid_record form.DefRangeFramePointerRelativeFullScope = lay signed
    (λ kind offset. DefRangeFramePointerRelativeFullScope offset)
laid_record form.DefRangeRegisterRelative = lay (register_and_word ▷ signed ▷ ranged)
    (λ kind ((register, word), (offset, ((start, len), gaps))). DefRangeRegisterRelative register (subfield_of word) offset (record { start = start; len = len }) (gaps_of gaps))
-- frames
laid_record form.FrameProcedure = lay (frame_sizes ▷ offset ▷ number 4)
    (λ kind ((frame_bytes, (padding_bytes, (padding_offset, saved_register_bytes))), (exception_handler, flags)). FrameProcedure (record {
      frame_bytes = frame_bytes;
      padding_bytes = padding_bytes;
      padding_offset = padding_offset;
      saved_register_bytes = saved_register_bytes;
      exception_handler = exception_handler;
      flags = frame_flags_of flags;
      local_base = local_base_of flags;
      parameter_base = parameter_base_of flags;
    }))
laid_record form.FrameCookie = lay (signed ▷ register ▷ number 1 ▷ number 1)
    (λ kind (offset, (register, (cookie, flags))). FrameCookieSays (record { offset = offset; register = register; cookie = cookie_of cookie; flags = flags }))
-- code
laid_record form.CallSiteInfo = lay site_of_type
    (λ kind (offset, (unused, type_index)). CallSite (record { offset = offset; type_index = type_index }))
laid_record form.HeapAllocationSite = lay site_of_type
    (λ kind (offset, (instruction_bytes, type_index)). HeapAllocation (record { offset = offset; instruction_bytes = instruction_bytes; type_index = type_index }))
laid_record form.FunctionList = lay (counted_ids ▷ rest)
    (λ kind ((count, functions), invocations). FunctionList (relation_of kind) (numbers_of functions) (numbers_of (take (4 * count) invocations)))
laid_record form.JumpTable = lay (table_base ▷ two_places ▷ number 4)
    (λ kind ((base, entry_kind), ((branch, (table, (branch_section, table_section))), entries)). Jumps (record {
      base = base;
      entry_kind = entry_kind_of entry_kind;
      branch = record { offset = branch; section = branch_section };
      table = record { offset = table; section = table_section };
      entries = entries;
    }))
laid_record form.PogoData = lay (number 4 ▷ signed_wide ▷ number 4 ▷ number 4)
    (λ kind (invocations, (dynamic_count, (instructions, live_instructions))). Pogo (record { invocations = invocations; dynamic_count = dynamic_count; instructions = instructions; live_instructions = live_instructions }))
laid_record form.HotPatchFunction = lay (id_index ▷ name)
    (λ kind (id, name). HotPatchFunction id name)
laid_record form.Annotation = lay (offset ▷ counted_names)
    (λ kind (offset, (count, strings)). Annotation offset strings)
-- the image, and how it was made
laid_record form.CoffGroup = lay (group_place ▷ name)
    (λ kind ((len, (characteristics, offset)), name). CoffGroup len characteristics offset name)
laid_record form.Section = lay (section_head ▷ section_span ▷ name)
    (λ kind ((section, (alignment, unused)), ((address, (len, characteristics)), name)). Section (record {
      section = section;
      alignment = alignment;
      address = address;
      len = len;
      characteristics = characteristics;
      name = name;
    }))
laid_record form.EnvironmentBlock = lay (number 1 ▷ names)
    (λ kind (flags, strings). EnvironmentBlock (has flags 1) strings)
-- managed code
laid_record form.ManagedProcedure = lay (scope ▷ body ▷ managed ▷ name)
    (λ kind ((parent, (end, next)), ((len, (start, stop)), ((token, (offset, (flags, return_register))), name))). ManagedProcedure (record {
      global = is_in (0x112a ∷ 0x101a ∷ []) kind;
      parent = parent;
      end = end;
      next = next;
      len = len;
      dbg_start_offset = start;
      dbg_end_offset = stop;
      token = token;
      offset = offset;
      flags = flags;
      return_register = return_register;
      name = name;
    }))
laid_record form.TokenReference = lay (number 4 ▷ symbol_index ▷ number_as 2 module_of ▷ name)
    (λ kind (sum_name, (symbol_index, (of_module, name))). TokenReference sum_name symbol_index of_module name)
laid_record form.Oem = lay (slice 16 ▷ type_index ▷ rest)
    (λ kind (id, (type_index, content)). Oem id type_index content)
-- variables of accelerators
laid_record form.LocalGroupShared = lay (shared_head ▷ name)
    (λ kind ((type_index, (flags, (data_slot, data_offset))), name). LocalGroupShared type_index flags data_slot data_offset name)
laid_record form.PointerTagMap = lay rest (λ kind tags. PointerTagMap (tags_of tags))
-- variables of managed code
laid_record form.Slot = lay (number 4 ▷ type_index ▷ name)
    (λ kind (slot, (type_index, name)). Slot (is_in (0x111b ∷ 0x1018 ∷ []) kind) slot type_index name)
laid_record form.ManagedSlot = lay (number 4 ▷ type_index ▷ attributes ▷ name)
    (λ kind (slot, (type_index, ((live, flags), name))). ManagedSlot slot type_index (record { live = live; flags = flags }) name)
laid_record form.ManagedFrameRelative = lay (signed ▷ type_index ▷ attributes ▷ name)
    (λ kind (offset, (type_index, ((live, flags), name))). ManagedFrameRelative offset type_index (record { live = live; flags = flags }) name)
laid_record form.ManagedRegister = lay (type_index ▷ attributes ▷ register ▷ name)
    (λ kind (type_index, ((live, flags), (register, name))). ManagedRegister type_index (record { live = live; flags = flags }) register name)
laid_record form.ManagedRegisterRelative = lay (place_by_register ▷ attributes ▷ name)
    (λ kind ((offset, (type_index, register)), ((live, flags), name)). ManagedRegisterRelative offset type_index register (record { live = live; flags = flags }) name)
-- older compilers, and other kinds of code
laid_record form.RegisterRelativeOld = lay (signed ▷ type_index ▷ register ▷ name)
    (λ kind (offset, (type_index, (register, name))). RegisterRelativeOld offset type_index register name)
laid_record form.With = lay (with_span ▷ offset ▷ name)
    (λ kind ((parent, (end, len)), (offset, name)). With parent end len offset name)
laid_record form.VirtualTablePath = lay (type_index ▷ type_index ▷ offset)
    (λ kind (root, (path, offset)). TablePath (record { root = root; path = path; offset = offset }))
laid_record form.ModuleTypeReference = lay (number_as 4 module_type_flags_of ▷ number 2 ▷ number 2)
    (λ kind (flags, (word0, word1)). TypeReference (record { flags = flags; word0 = word0; word1 = word1 }))
laid_record form.MiniReference = lay (number 4 ▷ number_as 2 module_of ▷ number_as 2 mini_reference_flags_of ▷ name)
    (λ kind (value, (of_module, (flags, name))). MiniReference value of_module flags name)
laid_record form.Discarded = lay (number 4 ▷ number 4 ▷ number 4 ▷ rest)
    (λ kind (word, (file, (line, content))). Discarded (discard_of word) file line content)
laid_record form.Compile = lay (number 1 ▷ number 1 ▷ number 2 ▷ name)
    (λ kind (cpu, (language, (flags, name))). Compile cpu language flags name)
laid_record form.StartSearch = lay (symbol_index ▷ number 2)
    (λ kind (start, section). Search (record { start = start; section = section }))
laid_record form.EndOfArguments = lay nothing (λ kind _. EndOfArguments)

-- a record of a form and a kind, of bytes b, says d
abbrev pub IsOfRecord : RecordForm → ℕ → List ℕ → Says → Type 0
IsOfRecord f kind b d = (s : (laid_record f).Parts) × (laid_record f).layout.Stands kind b 2 s × (d ≡ (laid_record f).says kind s)

-- what is read of it, or the refusal
unfoldable pub read_of_record : RecordForm → ℕ → List ℕ → Result Says Error
read_of_record f kind b = (laid_record f).layout.at kind b 2 >>= (λ s. Ok ((laid_record f).says kind s))
