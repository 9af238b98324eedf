-- Whether what is read of a file's modules has no error.
use Rattle.std.specs.Prelude.{ℕ, Bool, true, false, List, Option, Some, None, Result, Ok, Err}
use Rattle.std.specs.List.{slice_get}
use Rattle.pdb.specs.Error.{Error}
use Rattle.pdb.specs.Answers.{debug_information_in, module_info_in}
use Rattle.pdb.specs.Modules.{ModuleEntry}
use Rattle.pdb.specs.ModuleStream.{ModuleBytes}
use Rattle.pdb.specs.PdbInternalSectionOffset.{PdbInternalSectionOffset}
use Rattle.pdb_places.specs.AsIfEmpty.{if_read}
use Rattle.pdb_resolve.specs.FileParts.{modules_listed}
use Rattle.pdb_places.specs.ModulePlaces.{module_number_at}
use Rattle.pdb_code.specs.Whole.{is_whole}

-- a module without a stream, or with one that can be read and has no error
abbrev pub is_whole_info : Result (Option ModuleBytes) Error → Bool
is_whole_info (Ok None) = true
is_whole_info (Ok (Some m)) = is_whole m
is_whole_info (Err e) = false

abbrev pub is_whole_listed : List ℕ → Option ModuleEntry → Bool
is_whole_listed file None = true
is_whole_listed file (Some m) = is_whole_info (module_info_in file m)

-- the module of this number in the list
unfoldable pub is_whole_numbered : List ℕ → ℕ → Bool
is_whole_numbered file k = is_whole_listed file (slice_get (modules_listed file) k)

abbrev pub is_whole_where : List ℕ → Option ℕ → Bool
is_whole_where file None = true
is_whole_where file (Some k) = is_whole_numbered file k

-- the module at a place; where none is there, nothing has an error
abbrev pub is_whole_at : List ℕ → PdbInternalSectionOffset → Bool
is_whole_at file q = is_whole_where file (module_number_at q (if_read (debug_information_in file)))
