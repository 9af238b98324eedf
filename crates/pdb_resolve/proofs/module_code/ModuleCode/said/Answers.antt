use Rattle.std.proofs.Common.{sym, ap, ◌∙◌}
use Rattle.pdb.specs.Views.{symbols_left}
use Rattle.pdb.specs.ModuleStream.{symbols_at_of}
use Rattle.pdb_code.proofs.SiteCalls.{on_ok, said_there, not_there}
use Rattle.pdb_resolve.proofs.module_code.ModuleCode.said.Goals as goal

pub returns-in-Ok-clause-says : goal.returns-in-Ok-clause-says
returns-in-Ok-clause-says c =
    let there = said_there c.args.self.now c.args.index (symbols_left c.in-Ok.symbols) (ap (symbols_at_of c.args.index) (sym c.self.view_is) ∙ c.in-Ok.ensures.left) c.requires in
    on_ok _ _ (λ d e. e ∙ there) c.first_said.result c.first_said.ensures.says

pub returns-in-Err-clause-says : goal.returns-in-Err-clause-says
returns-in-Err-clause-says c = absurd (not_there c.args.self.now c.args.index c.in-Err.field-0 (ap (symbols_at_of c.args.index) (sym c.self.view_is) ∙ c.in-Err.ensures.left.0) c.requires)
