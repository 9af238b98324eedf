-- The relative addresses that lines give.
use Rattle.std.specs.Prelude.{ℕ, nat_lt, Bool, if◌then◌else◌, Option, Some, None}
use Rattle.pdb_stacks.specs.RelativeAddresses.{in_image, of_pdb}
use Rattle.tool_stacks.specs.declared.address.KnownModule.{KnownModule}
use Rattle.tool_stacks.specs.declared.address.KnownModule.TheVariants.{Image, Pdb}
use Rattle.tool_stacks.specs.declared.address.LineAddress.{LineAddress}
use Rattle.tool_stacks.specs.declared.address.LineAddress.TheVariants.{Relative, InRange, FromSymbol}

abbrev pub relative_to : KnownModule → ℕ → Bool → Option ℕ
relative_to (Image base size) n closed = in_image base size n closed
relative_to (Pdb x86) n closed = of_pdb x86 n closed

-- an offset in a range, of 32 bits
abbrev pub in_range : ℕ → Option ℕ
in_range offset = if nat_lt offset 4294967296 then Some offset else None

abbrev pub relative_by : KnownModule → LineAddress → Option ℕ
relative_by m (Relative n closed) = relative_to m n closed
relative_by m (InRange offset) = in_range offset
relative_by m FromSymbol = None
