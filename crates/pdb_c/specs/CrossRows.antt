-- What modules import from one another and export, as rows.
use Rattle.std.specs.Prelude.{ℕ, List, map}
use Rattle.pdb.specs.CrossModule.{ImportedModule}
use Rattle.pdb.specs.ExportViews.{export_of, local_of, global_number_of}
use Rattle.pdb.specs.CrossModuleExport.{CrossModuleExport}
use Rattle.pdb.specs.ModuleStream.{ModuleBytes, imports_of, exports_of}
use Rattle.pdb_c.specs.Lists.{IsListed, Obtained, WithoutMemory, whole_list}
use Rattle.pdb_c.specs.declared.imports.PdbImport.{PdbImport}
use Rattle.pdb_c.specs.declared.exports.PdbExport.{PdbExport}

-- the module of which a row tells
abbrev pub import_row : PdbImport → ImportedModule
import_row y = record { name = y.name; bytes = y.numbers.now }

-- imports that a call put
abbrev pub ImportsPut : ℕ → List PdbImport → List PdbImport → ℕ → List ImportedModule → Type 0
ImportsPut code old new count modules = IsListed import_row (λ x. x) code old new count (whole_list modules)

-- what a call put of the imports of a module
abbrev pub ImportsTold : ℕ → List PdbImport → List PdbImport → ℕ → ModuleBytes → Type 0
ImportsTold code old new count m = Obtained (ImportsPut code old new count) code old new count (imports_of m)

-- the same where it takes no memory
abbrev pub ImportsExact : ℕ → List PdbImport → List PdbImport → ℕ → ModuleBytes → Type 0
ImportsExact code old new count m = WithoutMemory (ImportsPut code old new count) code old new count (imports_of m)

-- an export as a row
abbrev pub export_row : CrossModuleExport → PdbExport
export_row x = record { local = local_of x; global = global_number_of x }

-- exports that a call put
abbrev pub ExportsPut : ℕ → List PdbExport → List PdbExport → ℕ → List (ℕ × ℕ) → Type 0
ExportsPut code old new count pairs = IsListed (λ r. r) export_row code old new count (whole_list (map export_of pairs))

-- what a call put of the exports of a module
abbrev pub ExportsTold : ℕ → List PdbExport → List PdbExport → ℕ → ModuleBytes → Type 0
ExportsTold code old new count m = Obtained (ExportsPut code old new count) code old new count (exports_of m)

-- the same where it takes no memory
abbrev pub ExportsExact : ℕ → List PdbExport → List PdbExport → ℕ → ModuleBytes → Type 0
ExportsExact code old new count m = WithoutMemory (ExportsPut code old new count) code old new count (exports_of m)
