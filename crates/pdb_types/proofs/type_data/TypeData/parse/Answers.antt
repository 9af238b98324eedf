use Rattle.pdb_types.proofs.TypeClauses.{found_of}
use Rattle.pdb_types.proofs.type_data.TypeData.parse.Goals as goal

pub returns-clause-found : goal.returns-clause-found
returns-clause-found c = found_of c.parse_type.result _ (rw c.raw_bytes.ensures.bytes at c.parse_type.ensures)
