-- The references of a line, and what lines say of the lines behind them.
use Rattle.std.specs.Prelude.{ℕ, ◌-◌, List, [], ◌∷◌, ◌++◌, is_some, length, map, slice_get, ◌==◌, Bool, false, Option, Some, None, option_and_then, option_map, option_to_list, Vec, vec_items, unwrap_or}
use Rattle.std.specs.Option.{option_or}
use Rattle.std.specs.declared.alloc.Global.{Global}
use Rattle.pdb_stacks.specs.FaultLines.{faulting_module}
use Rattle.pdb_stacks.specs.LineCode.{code_in, fault_of, listed_by}
use Rattle.pdb_stacks.specs.LineReferences.{bytes_of}
use Rattle.pdb_stacks.specs.ModuleRanges.{range_of, with_range}
use Rattle.pdb_stacks.specs.declared.bytes.Span.{Span}
use Rattle.pdb_stacks.specs.declared.hex_numbers.SpelledNumber.{SpelledNumber}
use Rattle.pdb_stacks.specs.declared.line_code.LineCode.{LineCode}
use Rattle.pdb_stacks.specs.declared.line_code.LineCode.TheVariants.{Fault, References, Address, Nothing}
use Rattle.pdb_stacks.specs.declared.ranges.ModuleRange.{ModuleRange}
use Rattle.pdb_stacks.specs.declared.references.Reference.{Reference}
use Rattle.tool_stacks.specs.declared.address.LineAddress.{LineAddress}
use Rattle.tool_stacks.specs.declared.address.LineAddress.TheVariants.{Relative, InRange, FromSymbol}
use Rattle.tool_stacks.specs.declared.line.Known.{Known}
use Rattle.tool_stacks.specs.declared.line.LineUse.{LineUse}
use Rattle.tool_stacks.specs.declared.line.LineUse.TheVariants as kind
use Rattle.tool_stacks.specs.declared.line.Modules.{Modules}

-- ---- modules

-- names, and the ranges of the modules by the indices of these
pub record Listed : Type 0 where
  pub names : List (List ℕ)
  pub ranges : List ModuleRange

abbrev pub modules_of : Modules → Listed
modules_of m = record { names = map vec_items m.names.items; ranges = m.ranges.items }

-- a module with a range of its own
abbrev pub with_module : List ℕ → ℕ → ℕ → Listed → Listed
with_module name start size m = record {
  names = m.names ++ name ∷ [];
  ranges = with_range m.ranges (record { start = start; size = size; «module» = length m.names });
}

-- the module that failed, if a line says so
abbrev pub failed_after : List ℕ → Option (List ℕ) → Option (List ℕ)
failed_after line failed = option_or (option_map (bytes_of line) (faulting_module line)) failed

abbrev pub name_items : Option (Vec ℕ Global) → Option (List ℕ)
name_items name = option_map vec_items name

-- ---- references

-- a module's name, and an address in the module
pub record Use : Type 0 where
  pub name : List ℕ
  pub address : LineAddress

abbrev pub use_of : List ℕ → LineAddress → Use
use_of name address = record { name = name; address = address }

abbrev pub address_by : Option Span → ℕ → Bool → LineAddress
address_by None n closed = Relative n closed
address_by (Some symbol) n closed = FromSymbol

-- a symbol's offset isn't relative to the module
abbrev pub address_of : Reference → LineAddress
address_of r = address_by r.symbol r.number r.is_closed

abbrev pub reference_use : List ℕ → Reference → Use
reference_use line r = use_of (bytes_of line r.«module») (address_of r)

abbrev pub is_closed_at : List ℕ → ℕ → Bool
is_closed_at line at = unwrap_or (slice_get line at) 0 == 41

-- the offset of a fault
abbrev pub fault_address : List ℕ → SpelledNumber → LineAddress
fault_address line n = Relative n.number (is_closed_at line n.text.end)

abbrev pub fault_uses : List ℕ → Option (List ℕ) → SpelledNumber → List Use
fault_uses line None n = []
fault_uses line (Some name) n = use_of name (fault_address line n) ∷ []

-- an address of the process, where a range has it
abbrev pub range_use : Listed → ℕ → ModuleRange → Option Use
range_use m n r = option_map (λ name. use_of name (InRange (n - r.start))) (slice_get m.names r.«module»)

abbrev pub address_use : Listed → ℕ → Option Use
address_use m n = option_and_then (range_use m n) (range_of m.ranges n)

abbrev pub address_uses : Listed → ℕ → List Use
address_uses m n = option_to_list (address_use m n)

-- what is known of modules by the lines so far
pub record Heard : Type 0 where
  pub modules : Listed
  pub failed : Option (List ℕ)

abbrev pub heard_of : Known → Heard
heard_of k = record { modules = modules_of k.modules; failed = name_items k.failed }

-- ---- by what of a line stands for code, with the references that are listed

abbrev pub uses_by : List ℕ → List Reference → Heard → LineCode → List Use
uses_by line rs k (Fault n) = fault_uses line k.failed n
uses_by line rs k References = map (reference_use line) rs
uses_by line rs k (Address n) = address_uses k.modules n.number
uses_by line rs k Nothing = []

abbrev pub kind_if : Option Use → LineUse
kind_if None = kind.Nothing
kind_if (Some u) = kind.References

abbrev pub kind_by : Heard → LineCode → LineUse
kind_by k (Fault n) = kind.Fault
kind_by k References = kind.References
kind_by k (Address n) = kind_if (address_use k.modules n.number)
kind_by k Nothing = kind.Nothing

-- a fault's offset uses the module up
abbrev pub failed_by : Option (List ℕ) → LineCode → Option (List ℕ)
failed_by failed (Fault n) = None
failed_by failed References = failed
failed_by failed (Address n) = failed
failed_by failed Nothing = failed

abbrev pub heard_by : Heard → LineCode → Heard
heard_by k c = record { modules = k.modules; failed = failed_by k.failed c }

-- it is never a return address
abbrev pub returns_by : Bool → LineCode → Bool
returns_by is_return (Fault n) = false
returns_by is_return References = is_return
returns_by is_return (Address n) = is_return
returns_by is_return Nothing = is_return

-- ---- a line that is no heading: the module that failed may stand in it

abbrev pub naming : List ℕ → Heard → Heard
naming line k = record { modules = k.modules; failed = failed_after line k.failed }

abbrev pub code_of : List ℕ → Heard → LineCode
code_of line k = code_in line (is_some k.failed)

abbrev pub listed_of : List ℕ → Heard → List Reference
listed_of line k = listed_by line (fault_of line (is_some k.failed))

abbrev pub kind_named : List ℕ → Heard → LineUse
kind_named line k = kind_by k (code_of line k)

abbrev pub heard_named : List ℕ → Heard → Heard
heard_named line k = heard_by k (code_of line k)

abbrev pub line_kind : List ℕ → Heard → LineUse
line_kind line k = kind_named line (naming line k)

abbrev pub line_heard : List ℕ → Heard → Heard
line_heard line k = heard_named line (naming line k)
