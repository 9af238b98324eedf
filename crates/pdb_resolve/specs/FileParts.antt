-- The parts of a file, each as if it weren't there where it is refused.
use Rattle.std.specs.Prelude.{ℕ, List, [], Option, Some, None, Result}
use Rattle.std.specs.List.{slice_get}
use Rattle.pdb.specs.Error.{Error}
use Rattle.pdb.specs.Container.{stream_of}
use Rattle.pdb.specs.Items.{ItemEntry, known_items_in}
use Rattle.pdb.specs.Modules.{ModuleEntry, modules_in}
use Rattle.pdb.specs.ModuleStream.{ModuleBytes}
use Rattle.pdb.specs.Answers.{debug_information_in, module_info_in, string_table_in}
use Rattle.pdb_places.specs.AsIfEmpty.{items_of, if_read, if_found, read_or}
use Rattle.pdb_resolve.specs.Frames.{Names}

-- the list of modules, where the DBI stream is there
abbrev pub modules_where : Option (List ℕ) → List ModuleEntry
modules_where None = []
modules_where (Some information) = items_of (modules_in information)

unfoldable pub modules_listed : List ℕ → List ModuleEntry
modules_listed file = modules_where (if_read (debug_information_in file))

abbrev pub module_read : List ℕ → Option ModuleEntry → Option ModuleBytes
module_read file None = None
module_read file (Some m) = if_found (module_info_in file m)

-- the stream of the module of this number in the list
unfoldable pub module_numbered : List ℕ → ℕ → Option ModuleBytes
module_numbered file k = module_read file (slice_get (modules_listed file) k)

abbrev pub items_or_none : Result (List ItemEntry) Error → List ItemEntry
items_or_none items = read_or items []

-- the items of a stream of types or ids, where it is there
abbrev pub items_where : Option (List ℕ) → List ItemEntry
items_where None = []
items_where (Some stream) = items_or_none (known_items_in stream)

unfoldable pub items_listed : List ℕ → ℕ → List ItemEntry
items_listed file stream = items_where (if_read (stream_of file stream None))

-- what names are read from
unfoldable pub names_in : List ℕ → Names
names_in file = record { ids = items_listed file 4; types = items_listed file 2; strings = if_read (string_table_in file) }
