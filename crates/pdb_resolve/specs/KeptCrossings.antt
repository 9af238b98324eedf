-- What is kept of the lists by which an id leads to another module: what the file says.
use Rattle.std.specs.Prelude.{◌≡◌, ℕ, true, List, [], Option, Some, None, IsSome, IfSome}
use Rattle.std.specs.Ordering.{nat_cmp}
use Rattle.std.specs.BTreeMap.{BTreeMap, get}
use Rattle.pdb.specs.CrossModule.{ImportedModule}
use Rattle.pdb.specs.Modules.{ModuleEntry}
use Rattle.pdb.specs.ModuleStream.{ModuleBytes, imports_of}
use Rattle.pdb.specs.Source.{State}
use Rattle.pdb_resolve.specs.declared.crossings.Crossings.{Crossings}
use Rattle.pdb_resolve.specs.declared.crossings.ListedCode.{ListedCode}
use Rattle.pdb_resolve.specs.declared.module_numbers.ModuleNumbers.{ModuleNumbers}
use Rattle.pdb_resolve.specs.AcrossModules.{exports_where}
use Rattle.pdb_resolve.specs.FileParts.{module_numbered, modules_listed}
use Rattle.pdb_resolve.specs.ImportTables.{imports_or_none}
use Rattle.pdb_resolve.specs.NumberViews.{AreNumbersOf}

-- what the module of a number imports and exports, where that was read
abbrev pub imports_kept : Crossings → ℕ → Option (List ImportedModule)
imports_kept x k = get nat_cmp x.imports k

abbrev pub exports_kept : Crossings → ℕ → Option (List (ℕ × ℕ))
exports_kept x k = get nat_cmp x.exports k

-- exports of modules by their numbers are what the file says
abbrev pub AreExportsOf : State → BTreeMap ℕ (List (ℕ × ℕ)) → Type 0
AreExportsOf s kept = s.told ≡ true → (k : ℕ) (l : List (ℕ × ℕ)) → get nat_cmp kept k ≡ Some l → l ≡ exports_where (module_numbered s.file k)

-- those that were read are still among those
abbrev pub AreStillRead : BTreeMap ℕ (List (ℕ × ℕ)) → BTreeMap ℕ (List (ℕ × ℕ)) → Type 0
AreStillRead old new = (k : ℕ) → IsSome (get nat_cmp old k) → IsSome (get nat_cmp new k)

-- the exports of the module of a number were read, where there is one
abbrev pub IsRead : BTreeMap ℕ (List (ℕ × ℕ)) → Option ℕ → Type 0
IsRead kept number = IfSome number (λ k. IsSome (get nat_cmp kept k))

-- the imports of a module; none where its stream isn't there
abbrev pub imports_where : Option ModuleBytes → List ImportedModule
imports_where None = []
imports_where (Some m) = imports_or_none (imports_of m)

-- the numbers that were made are those of the file's modules
abbrev pub IsNumbering : State → Option ModuleNumbers → Type 0
IsNumbering s None = Unit {0}
IsNumbering s (Some n) = s.told ≡ true → AreNumbersOf (modules_listed s.file) n

pub record AreCrossingsOf (s : State) (x : Crossings) : Type 0 where
  pub numbers : IsNumbering s x.numbers
  pub imports : s.told ≡ true → (k : ℕ) (l : List ImportedModule) → imports_kept x k ≡ Some l → l ≡ imports_where (module_numbered s.file k)
  pub exports : AreExportsOf s x.exports

-- a list of modules is that of the file
abbrev pub IsListOf : State → List ModuleEntry → Type 0
IsListOf s ms = s.told ≡ true → ms ≡ modules_listed s.file

-- a module is the one of its number in the file's list
pub record IsListedCode (s : State) (c : ListedCode) : Type 0 where
  pub listed : IsListOf s c.listed.now
  pub numbered : s.told ≡ true → module_numbered s.file c.number ≡ Some c.code.now
