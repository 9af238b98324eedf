use Rattle.pdb_symbols.proofs.HeadingClauses.{heading_memory}
use Rattle.pdb_symbols.proofs.symbol.Symbol.heading.Goals as goal

-- src/symbol.rt:140:5
pub returns-clause-memory : goal.returns-clause-memory
returns-clause-memory c = heading_memory c.read_heading.result c.args.self.now.bytes.now c.read_heading.ensures
