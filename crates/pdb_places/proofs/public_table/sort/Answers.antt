use Rattle.std.proofs.Common.{rules}
use Rattle.std.proofs.lemmas.List.Sorted.{IsNonDecreasingBy-from_sort_by_key}
use Rattle.pdb_places.specs.PublicTable.{key_of}
use Rattle.pdb_places.proofs.public_table.sort.Goals as goal

pub returns-in-Ok-clause-rises : goal.returns-in-Ok-clause-rises
returns-in-Ok-clause-rises c = IsNonDecreasingBy-from_sort_by_key key_of _ c.in-Ok.ensures.sorted (λ a r q k. search rules)
