-- What of a line stands for code.
use Rattle.std.specs.Prelude.{ℕ, List, [], ◌∷◌, Bool, if◌then◌else◌, Option, Some, None}
use Rattle.pdb_stacks.specs.FaultLines.{fault_offset}
use Rattle.pdb_stacks.specs.LineReferences.{references}
use Rattle.pdb_stacks.specs.ProcessAddresses.{process_address}
use Rattle.pdb_stacks.specs.declared.hex_numbers.SpelledNumber.{SpelledNumber}
use Rattle.pdb_stacks.specs.declared.line_code.LineCode.{LineCode}
use Rattle.pdb_stacks.specs.declared.line_code.LineCode.TheVariants.{Fault, References, Address, Nothing}
use Rattle.pdb_stacks.specs.declared.references.Reference.{Reference}

-- a fault counts where it is known which module failed
abbrev pub fault_of : List ℕ → Bool → Option SpelledNumber
fault_of line knows = if knows then fault_offset line else None

-- without references, the address of a process
abbrev pub address_or_nothing : Option SpelledNumber → LineCode
address_or_nothing None = Nothing
address_or_nothing (Some a) = Address a

abbrev pub without_references : List ℕ → LineCode
without_references line = address_or_nothing (process_address line)

abbrev pub by_references : List ℕ → List Reference → LineCode
by_references line [] = without_references line
by_references line (r ∷ rs) = References

-- a fault, references, or an address
abbrev pub code_by : List ℕ → Option SpelledNumber → LineCode
code_by line (Some n) = Fault n
code_by line None = by_references line (references line)

abbrev pub code_in : List ℕ → Bool → LineCode
code_in line knows = code_by line (fault_of line knows)

-- the references that are listed
abbrev pub listed_by : List ℕ → Option SpelledNumber → List Reference
listed_by line (Some n) = []
listed_by line None = references line
