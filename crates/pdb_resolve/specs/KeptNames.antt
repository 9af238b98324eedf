-- What a resolver keeps of names is what the file says.
use Rattle.std.specs.Prelude.{◌≡◌, true}
use Rattle.pdb.specs.Source.{State}
use Rattle.pdb.specs.Answers.{string_table_in, debug_information_in}
use Rattle.pdb_places.specs.AsIfEmpty.{if_read}
use Rattle.pdb_resolve.specs.declared.tables.Tables.{Tables}
use Rattle.pdb_resolve.specs.declared.kept_file.KeptFile.{KeptFile}
use Rattle.pdb_resolve.specs.KeptCrossings.{AreCrossingsOf}
use Rattle.pdb_resolve.specs.KeptParts.{IsAskedOf, AreModulesOf, AreTablesOf, AreGlobalsOf}

pub record AreNamesOf (s : State) (t : Tables) : Type 0 where
  pub strings : IsAskedOf s.told (if_read (string_table_in s.file)) t.strings
  pub names : AreTablesOf s t.names
  pub crossings : AreCrossingsOf s t.crossings
  pub globals : AreGlobalsOf s t.globals

-- what is kept of a file is what the file says, where all that was read is the file's
pub record IsFileKept (s : State) (k : KeptFile) : Type 0 where
  pub module_places : s.told ≡ true → k.module_places.stream ≡ if_read (debug_information_in s.file)
  pub modules : AreModulesOf s k.modules
  pub tables : AreNamesOf s k.tables
