use Rattle.std.proofs.Common.{ap}
use Rattle.pdb_base.specs.Left.{Left}
use Rattle.pdb_symbols.specs.SymbolList.{Entry}
use Rattle.pdb_symbols.proofs.SymbolLaws.{resumes_at}
use Rattle.pdb_symbols.proofs.laws.symbols_resume_at_an_index.Goals as goal

pub returns-clause-items : goal.returns-clause-items
returns-clause-items c b p before after s e = ap (λ (l : Left Entry). l.items) (resumes_at b p before after s e)

pub returns-clause-fault : goal.returns-clause-fault
returns-clause-fault c b p before after s e = ap (λ (l : Left Entry). l.fault) (resumes_at b p before after s e)
