-- Registers by the number of a machine in the PE format.
use Rattle.std.specs.Prelude.{ℕ, List, Option, Some, None}
use Rattle.pdb_base.specs.declared.index.Register.{Register}
use Rattle.pdb_records.specs.Machines.{frame_register_of, register_name_of}
use Rattle.pdb_records.specs.declared.machine.Machine.{Machine}

abbrev pub name_on : Option Machine → ℕ → Option (List ℕ)
name_on None number = None
name_on (Some machine) number = register_name_of machine number

abbrev pub number_or_zero : Option Register → ℕ
number_or_zero None = 0
number_or_zero (Some register) = register.0

abbrev pub frame_register_on : Option Machine → ℕ → ℕ
frame_register_on None base = 0
frame_register_on (Some machine) base = number_or_zero (frame_register_of machine base)
