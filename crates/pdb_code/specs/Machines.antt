-- Whether an image is for x86, by the header of the DBI stream: some decorated names are spelled otherwise there.
use Rattle.std.specs.Prelude.{ℕ, Bool, false, ◌==◌, List, Option, Some, None, Result, Ok, Err}
use Rattle.pdb.specs.Error.{Error}
use Rattle.pdb.specs.DBIHeader.{DBIHeader}
use Rattle.pdb.specs.Header.{header_of}

abbrev pub x86_said : Result DBIHeader Error → Bool
x86_said (Ok header) = header.machine_type == 0x14c
x86_said (Err e) = false

-- by the bytes of the stream
abbrev pub x86_by : Option (List ℕ) → Bool
x86_by None = false
x86_by (Some stream) = x86_said (header_of stream)
