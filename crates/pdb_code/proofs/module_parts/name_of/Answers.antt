use Rattle.std.proofs.Common.{Option}
use Rattle.std.specs.Option.{option_map}
use Rattle.pdb.specs.Error.{Error}
use Rattle.pdb.specs.Text.{name_bytes}
use Rattle.pdb.specs.Views.{symbol_of}
use Rattle.pdb_base.specs.declared.text.RawString.{RawString}
use Rattle.pdb_code.proofs.ProcedureNames.{titled}
use Rattle.pdb_code.proofs.SiteCalls.{on_ok}
use Rattle.pdb_code.proofs.module_parts.name_of.Goals as goal

pub returns-clause-name : goal.returns-clause-name
returns-clause-name c =
    on_ok {E = Error} _ _ (λ (n : Option RawString) e. titled (symbol_of c.args.symbol.now) (option_map name_bytes n) e)
    c.name_if_read.result (c.name_if_read.ensures.name _ c.heading.ensures.reads)
