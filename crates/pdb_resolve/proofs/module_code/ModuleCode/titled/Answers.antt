use Rattle.std.proofs.Common.{sym, ap, ◌∙◌}
use Rattle.pdb.specs.Views.{symbols_left}
use Rattle.pdb.specs.ModuleStream.{symbols_at_of}
use Rattle.pdb_code.specs.SaidNames.{name_said}
use Rattle.pdb_code.proofs.SiteCalls.{on_ok, said_there, not_there}
use Rattle.pdb_resolve.proofs.module_code.ModuleCode.titled.Goals as goal

pub returns-in-Ok-clause-name : goal.returns-in-Ok-clause-name
returns-in-Ok-clause-name c =
    let there = said_there c.args.self.now c.args.index (symbols_left c.in-Ok.symbols) (ap (symbols_at_of c.args.index) (sym c.self.view_is) ∙ c.in-Ok.ensures.left) c.requires in
    on_ok _ _ (λ n e. e ∙ ap name_said there) c.first_name.result c.first_name.ensures.name

pub returns-in-Err-clause-name : goal.returns-in-Err-clause-name
returns-in-Err-clause-name c = absurd (not_there c.args.self.now c.args.index c.in-Err.field-0 (ap (symbols_at_of c.args.index) (sym c.self.view_is) ∙ c.in-Err.ensures.left.0) c.requires)
