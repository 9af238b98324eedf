use Rattle.std.proofs.Common.{ap, ◌∙◌}
use Rattle.pdb_symbols.specs.Scopes.{starts_of}
use Rattle.pdb_symbols.proofs.Clauses.{record_starts}
use Rattle.pdb_symbols.proofs.symbol.Symbol.starts_scope.Goals as goal

pub returns-clause-says : goal.returns-clause-says
returns-clause-says c d e h = c.kind_starts_scope.ensures ∙ ap starts_of c.raw_kind.ensures ∙ record_starts _ d e h
