-- What contracts see of the numbers of modules.
use Rattle.std.specs.Prelude.{◌≡◌, ℕ, List, Option}
use Rattle.std.specs.Borrow.{Bor}
use Rattle.std.specs.BTreeMap.{BTreeMap, get_by}
use Rattle.std.specs.Cmp.Lexicographic.{slice_cmp}
use Rattle.std.specs.Ordering.{nat_cmp}
use Rattle.pdb.specs.Modules.{ModuleEntry}
use Rattle.pdb_resolve.specs.declared.module_numbers.ModuleNumbers.{ModuleNumbers}
use Rattle.pdb_resolve.specs.ModuleNumbers.{number_named}

-- the number to which a name leads
abbrev pub number_in : BTreeMap (Bor (List ℕ)) ℕ → List ℕ → Option ℕ
number_in numbers name = get_by (λ k. slice_cmp nat_cmp name k.now) numbers

-- numbers by names are those of these modules
abbrev pub AreNumbersOf : List ModuleEntry → ModuleNumbers → Type 0
AreNumbersOf ms n = (name : List ℕ) → number_in n.numbers name ≡ number_named ms name
