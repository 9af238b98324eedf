use Rattle.std.proofs.Common.{sym, ap, ◌∙◌}
use Rattle.pdb.specs.Views.{symbols_left}
use Rattle.pdb.specs.ModuleStream.{symbols_at_of}
use Rattle.pdb_code.specs.ModuleCode.{managed_named}
use Rattle.pdb_code.proofs.SiteCalls.{further_there, not_there}
use Rattle.pdb_resolve.proofs.module_code.ModuleCode.managed_of.Goals as goal

pub returns-in-Ok : goal.returns-in-Ok
returns-in-Ok c =
    let there = further_there c.args.self.now c.args.index (symbols_left c.in-Ok.symbols) (ap (symbols_at_of c.args.index) (sym c.self.view_is) ∙ c.in-Ok.ensures.left) c.requires in
    c.first_managed.ensures ∙ ap managed_named there

pub returns-in-Err : goal.returns-in-Err
returns-in-Err c = absurd (not_there c.args.self.now c.args.index c.in-Err.field-0 (ap (symbols_at_of c.args.index) (sym c.self.view_is) ∙ c.in-Err.ensures.left.0) c.requires)
