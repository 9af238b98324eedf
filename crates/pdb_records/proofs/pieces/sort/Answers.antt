use Rattle.std.proofs.Common.{rules}
use Rattle.std.proofs.lemmas.List.Sorted.{IsNonDecreasingBy-from_sort_by_key}
use Rattle.pdb_records.specs.PieceOrder.{start_of}
use Rattle.pdb_records.proofs.pieces.sort.Goals as goal

pub returns-in-Ok-clause-rises : goal.returns-in-Ok-clause-rises
returns-in-Ok-clause-rises c = IsNonDecreasingBy-from_sort_by_key start_of _ c.in-Ok.ensures.sorted (λ a r q k. search rules)
