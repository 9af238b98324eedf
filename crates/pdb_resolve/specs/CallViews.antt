-- What contracts see of the names of calls.
use Rattle.std.specs.Prelude.{ℕ, Option}
use Rattle.pdb.specs.Qualified.{Qualified}
use Rattle.pdb_resolve.specs.declared.global_ids.CallNames.{CallNames}
use Rattle.pdb_resolve.specs.AcrossModules.{names_by}
use Rattle.pdb_resolve.specs.ImportTables.{ids_by}

abbrev pub names_of_calls : CallNames → ℕ → Option Qualified
names_of_calls n = names_by n.ids.now n.types.now (ids_by n.global.now)
