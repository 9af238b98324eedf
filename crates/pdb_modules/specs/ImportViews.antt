-- What contracts see of imports.
use Rattle.pdb_modules.specs.declared.imports.Imported.{Imported}
use Rattle.pdb_modules.specs.CrossModule.{ImportedModule}

abbrev pub module_of : Imported → ImportedModule
module_of x = record { name = x.name; bytes = x.numbers.now }
