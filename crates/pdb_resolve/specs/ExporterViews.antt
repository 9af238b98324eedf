-- What contracts see of the modules from which a module imports.
use Rattle.std.specs.Prelude.{ℕ, List, [], map, Option, Some, None}
use Rattle.std.specs.BTreeMap.{BTreeMap, get}
use Rattle.std.specs.Ordering.{nat_cmp}
use Rattle.pdb_resolve.specs.declared.global_ids.Exporters.{Exporters}

abbrev pub pairs_where : Option (List (ℕ × ℕ)) → List (ℕ × ℕ)
pairs_where None = []
pairs_where (Some pairs) = pairs

-- what the module of a number exports; nothing where there is none
abbrev pub pairs_by : BTreeMap ℕ (List (ℕ × ℕ)) → Option ℕ → List (ℕ × ℕ)
pairs_by exports None = []
pairs_by exports (Some k) = pairs_where (get nat_cmp exports k)

abbrev pub exports_by : Exporters → List (List (ℕ × ℕ))
exports_by x = map (pairs_by x.exports) x.numbers.items
