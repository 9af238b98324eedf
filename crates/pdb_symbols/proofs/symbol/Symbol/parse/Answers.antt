use Rattle.pdb_symbols.proofs.Clauses.{found_of, kind_clause, prefix_clause, refused_of, memory_of}
use Rattle.pdb_symbols.proofs.symbol.Symbol.parse.Goals as goal

pub returns-clause-found : goal.returns-clause-found
returns-clause-found c = found_of c.parse_record.result _ c.parse_record.ensures

pub returns-clause-kind : goal.returns-clause-kind
returns-clause-kind c = kind_clause c.parse_record.result _ c.parse_record.ensures

pub returns-clause-prefix : goal.returns-clause-prefix
returns-clause-prefix c = prefix_clause c.parse_record.result _ c.parse_record.ensures

pub returns-clause-refused : goal.returns-clause-refused
returns-clause-refused c = refused_of c.parse_record.result _ c.parse_record.ensures

pub returns-clause-memory : goal.returns-clause-memory
returns-clause-memory c = memory_of c.parse_record.result _ c.parse_record.ensures
