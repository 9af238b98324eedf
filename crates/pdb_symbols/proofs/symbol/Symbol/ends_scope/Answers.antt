use Rattle.std.proofs.Common.{ap, ◌∙◌}
use Rattle.pdb_symbols.specs.Scopes.{ends_of}
use Rattle.pdb_symbols.proofs.Clauses.{record_ends}
use Rattle.pdb_symbols.proofs.symbol.Symbol.ends_scope.Goals as goal

pub returns-clause-says : goal.returns-clause-says
returns-clause-says c d e h = c.kind_ends_scope.ensures ∙ ap ends_of c.raw_kind.ensures ∙ record_ends _ d e h
