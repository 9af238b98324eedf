-- Flags of records: which bit of a number says what.
use Rattle.std.specs.Prelude.{ℕ, ◌/◌, ◌%◌, Option, Some, None, if◌then◌else◌, ◌==◌}
use Rattle.pdb_symbols.specs.Flags.{has}
use Rattle.pdb_records.specs.declared.flags.FrameFlags.{FrameFlags}
use Rattle.pdb_records.specs.declared.flags.VariableFlags.{VariableFlags}
use Rattle.pdb_records.specs.declared.frames.CookieKind.{CookieKind}
use Rattle.pdb_records.specs.declared.frames.CookieKind.TheVariants as cookie
use Rattle.pdb_records.specs.declared.code.EntryKind.{EntryKind}
use Rattle.pdb_records.specs.declared.code.EntryKind.TheVariants as entry
use Rattle.pdb_records.specs.declared.flags.ModuleTypeFlags.{ModuleTypeFlags}
use Rattle.pdb_records.specs.declared.flags.MiniReferenceFlags.{MiniReferenceFlags}
use Rattle.pdb_records.specs.declared.older.Discard.{Discard}
use Rattle.pdb_records.specs.declared.older.Discard.TheVariants.{NotSaid, NotSelected, NotReferenced}
use Rattle.pdb_records.specs.declared.older.Discard.TheVariants as discard
use Rattle.pdb_records.specs.declared.lists.Relation.{Relation}
use Rattle.pdb_records.specs.declared.lists.Relation.TheVariants.{Callees, Callers, Inlinees}

-- bits 14 to 17 are two encoded registers
unfoldable pub frame_flags_of : ℕ → FrameFlags
frame_flags_of n = record {
  alloca = has n 0x1;
  setjmp = has n 0x2;
  longjmp = has n 0x4;
  inline_asm = has n 0x8;
  eh = has n 0x10;
  inline_spec = has n 0x20;
  seh = has n 0x40;
  naked = has n 0x80;
  security_checks = has n 0x100;
  async_eh = has n 0x200;
  gs_no_stack_ordering = has n 0x400;
  was_inlined = has n 0x800;
  gs_check = has n 0x1000;
  safe_buffers = has n 0x2000;
  pogo_on = has n 0x40000;
  valid_counts = has n 0x80000;
  opt_speed = has n 0x100000;
  guard_cf = has n 0x200000;
  guard_cfw = has n 0x400000;
}

-- the encoded register of a frame from which locals count: bits 14 and 15; that of parameters: bits 16 and 17
abbrev pub local_base_of : ℕ → ℕ
local_base_of n = n / 0x4000 % 4

abbrev pub parameter_base_of : ℕ → ℕ
parameter_base_of n = n / 0x10000 % 4

unfoldable pub variable_flags_of : ℕ → VariableFlags
variable_flags_of n = record {
  param = has n 0x1;
  addrtaken = has n 0x2;
  compgenx = has n 0x4;
  aggregate = has n 0x8;
  aggregated = has n 0x10;
  aliased = has n 0x20;
  alias = has n 0x40;
  retvalue = has n 0x80;
  optimizedout = has n 0x100;
  enreg_glob = has n 0x200;
  enreg_stat = has n 0x400;
}

-- the offset in the variable, bits 4 to 15, where bit 0 says that there is one
abbrev pub subfield_of : ℕ → Option ℕ
subfield_of n = if has n 1 then Some (n / 16) else None

abbrev pub cookie_of : ℕ → CookieKind
cookie_of n =
    if n == 0 then cookie.Copy
    else if n == 1 then cookie.XorStackPointer
    else if n == 2 then cookie.XorBasePointer
    else if n == 3 then cookie.XorR13
    else cookie.Unknown n

abbrev pub entry_kind_of : ℕ → EntryKind
entry_kind_of n =
    if n == 0 then entry.Int1
    else if n == 1 then entry.Uint1
    else if n == 2 then entry.Int2
    else if n == 3 then entry.Uint2
    else if n == 4 then entry.Int4
    else if n == 5 then entry.Uint4
    else if n == 6 then entry.Pointer
    else if n == 7 then entry.Uint1Shl1
    else if n == 8 then entry.Uint2Shl1
    else if n == 9 then entry.Int1Shl1
    else if n == 10 then entry.Int2Shl1
    else entry.Unknown n

-- how functions of a list belong to the procedure, by the record's kind
abbrev pub relation_of : ℕ → Relation
relation_of kind = if kind == 0x115a then Callees else if kind == 0x115b then Callers else Inlinees

unfoldable pub module_type_flags_of : ℕ → ModuleTypeFlags
module_type_flags_of n = record {
  none = has n 0x1;
  ref_tmpct = has n 0x2;
  own_tmpct = has n 0x4;
  own_tmr = has n 0x8;
  own_tm = has n 0x10;
  ref_tm = has n 0x20;
}

unfoldable pub mini_reference_flags_of : ℕ → MiniReferenceFlags
mini_reference_flags_of n = record {
  local = has n 0x1;
  «data» = has n 0x2;
  udt = has n 0x4;
  label = has n 0x8;
  constant = has n 0x10;
}

-- why something was discarded: bits 0 to 7
abbrev pub discard_of : ℕ → Discard
discard_of word =
    if word % 256 == 0 then NotSaid
    else if word % 256 == 1 then NotSelected
    else if word % 256 == 2 then NotReferenced
    else discard.Unknown (word % 256)
