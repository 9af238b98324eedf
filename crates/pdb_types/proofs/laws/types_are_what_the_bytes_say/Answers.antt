use Rattle.pdb_types.proofs.TypeClauses.{type_is, is_type, type_none, none_type}
use Rattle.pdb_types.proofs.laws.types_are_what_the_bytes_say.Goals as goal

pub returns-clause-says : goal.returns-clause-says
returns-clause-says c b d = (type_is b d, is_type b d)

pub returns-clause-none : goal.returns-clause-none
returns-clause-none c b = (type_none b, none_type b)
