-- The list of modules that is kept.
use Rattle.std.specs.Prelude.{◌≡◌, ℕ, List, Option, Some, None, Result, Ok}
use Rattle.pdb.specs.Error.{Error}
use Rattle.pdb.specs.Refusal.{◌>>=◌}
use Rattle.pdb.specs.Left.{Left}
use Rattle.pdb.specs.Modules.{ModuleEntry, modules_in}
use Rattle.pdb.specs.ModuleStream.{ModuleBytes}
use Rattle.pdb.specs.Answers.{debug_information_in, info_listed, item_at}
use Rattle.pdb.specs.Listed.{Listed, listed}

-- the stream of the module with this index in a list of modules of a file
unfoldable pub info_at : List ℕ → ℕ → Left ModuleEntry → Result (Option ModuleBytes) Error
info_at file k left = item_at k left >>= info_listed file

-- the list is that of the file
abbrev pub IsListOf : List ℕ → Listed → Type 0
IsListOf file l = (debug_information_in file >>= modules_in) ≡ Ok (listed l)

-- where a list of modules is kept, it is that of the file
abbrev pub KeptOf : List ℕ → Option Listed → Type 0
KeptOf file None = Unit {0}
KeptOf file (Some l) = IsListOf file l
