-- Where a variable is, in numbers.
use Rattle.std.specs.Prelude.{ℕ, ℤ, pos}
use Rattle.pdb_variables.specs.VariableRecords.{Place}
use Rattle.pdb_variables.specs.VariableRecords.Place.{Whole, At, Value}
use Rattle.pdb_variables.specs.declared.locations.Storage.{Storage}
use Rattle.pdb_variables.specs.declared.locations.Storage.TheVariants.{Register, RegisterRelative, BasePointerRelative, FrameRelative, Program}
use Rattle.pdb_types.specs.TypeRows.{value_of}
use Rattle.pdb_c.specs.MemberRows.{in_bits}
use Rattle.pdb_c.specs.declared.storage_numbers.StorageNumbers.{StorageNumbers}

-- a storage of this kind, the number of a register, of a frame's register or of a program, and the bytes behind a register's value
abbrev pub stored : ℕ → ℕ → ℤ → StorageNumbers
stored location number displacement = record { location = location; number = number; displacement = displacement; offset = 0; section = 0; value = 0 }

abbrev pub stored_nowhere : StorageNumbers
stored_nowhere = stored 0 0 (pos 0)

-- a register is 1, memory by a register's value 2, by the base pointer 3, by the register of a frame 4, and what a program computes 5
abbrev pub storage_numbers : Storage → StorageNumbers
storage_numbers (Register register) = stored 1 register.0 (pos 0)
storage_numbers (RegisterRelative register offset) = stored 2 register.0 offset
storage_numbers (BasePointerRelative offset) = stored 3 0 offset
storage_numbers (FrameRelative base offset) = stored 4 base offset
storage_numbers (Program program) = stored 5 program (pos 0)

-- an offset in a section is 6, a constant 7; what is nowhere is 0, and so is what is told by parts
abbrev pub place_numbers : Place → StorageNumbers
place_numbers (Whole storage) = storage_numbers storage
place_numbers (At place) = record { location = 6; number = 0; displacement = pos 0; offset = place.offset; section = place.section; value = 0 }
place_numbers (Value value) = record { location = 7; number = 0; displacement = pos 0; offset = 0; section = 0; value = in_bits (value_of value) }
place_numbers place = stored_nowhere
