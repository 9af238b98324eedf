-- Whether what is read of a module has no error.
use Rattle.std.specs.Prelude.{Bool, false, ◌&&◌, Result, Ok, Err}
use Rattle.std.specs.Option.{is_none, is_some}
use Rattle.pdb.specs.Error.{Error}
use Rattle.pdb.specs.Left.{Left}
use Rattle.pdb.specs.ModuleStream.{ModuleBytes, symbols_of, inlinees_of}
use Rattle.pdb_code.specs.ModuleCode.{program_in}

-- a list that can be read, and has no fault
abbrev pub is_whole_list : {A : Type 0} → Result (Left A) Error → Bool
is_whole_list (Ok left) = is_none left.fault
is_whole_list (Err e) = false

-- the symbols, the lines and the inlined functions of a module
unfoldable pub is_whole : ModuleBytes → Bool
is_whole m = is_whole_list (symbols_of m) && is_some (program_in m) && is_whole_list (inlinees_of m)
