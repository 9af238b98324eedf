-- Which machine the code of a module is for.
use Rattle.std.specs.Prelude.{ℕ, List, [], ◌∷◌, Option, None, Result, Ok, Err}
use Rattle.std.specs.Option.{option_or}
use Rattle.pdb.specs.Error.{Error}
use Rattle.pdb.specs.Refusal.{◌>>=◌}
use Rattle.pdb.specs.Fields.{number}
use Rattle.pdb.specs.Data.{Data}
use Rattle.pdb.specs.Data.Data.{Compiler}
use Rattle.pdb.specs.Forms.{record_at}
use Rattle.pdb.specs.SymbolList.{Entry}
use Rattle.pdb.specs.Answers.{debug_information_in}
use Rattle.pdb.specs.Header.{header_of}
use Rattle.pdb.specs.DBIHeader.{DBIHeader}
use Rattle.pdb_records.specs.Machines.{machine_of_image, machine_of_processor}
use Rattle.pdb_records.specs.declared.machine.Machine.{Machine}

-- the machine that a record of how a module was compiled names: that of the processor's number, two bytes at offset 6
abbrev pub machine_named : List ℕ → Result Data Error → Option Machine
machine_named b (Ok (Compiler s)) = machine_of_processor (number b 6 2)
machine_named b parsed = None

-- the first machine that symbols name; the header's where none does
abbrev pub module_machine : Option Machine → List Entry → Option Machine
module_machine header [] = header
module_machine header (s ∷ ss) = option_or (machine_named s.bytes (record_at s.bytes)) (module_machine header ss)

-- the machine of the header of the DBI stream
abbrev pub machine_of_header : Result DBIHeader Error → Option Machine
machine_of_header (Ok header) = machine_of_image header.machine_type
machine_of_header (Err e) = None

abbrev pub file_machine : List ℕ → Option Machine
file_machine file = machine_of_header (debug_information_in file >>= header_of)
