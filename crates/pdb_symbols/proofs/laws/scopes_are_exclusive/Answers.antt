use Rattle.pdb_symbols.proofs.ScopeLaws.{starts_are, ends_are, none_both}
use Rattle.pdb_symbols.proofs.laws.scopes_are_exclusive.Goals as goal

pub returns-clause-starts : goal.returns-clause-starts
returns-clause-starts c b d = starts_are b d

pub returns-clause-ends : goal.returns-clause-ends
returns-clause-ends c b d = ends_are b d

pub returns-clause-exclusive : goal.returns-clause-exclusive
returns-clause-exclusive c kind = none_both kind
