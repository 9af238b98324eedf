use Rattle.std.proofs.Common.{Some, None, sym, ap, ◌∙◌}
use Rattle.std.specs.Option.{option_map}
use Rattle.pdb.specs.Text.{name_bytes}
use Rattle.pdb_code.specs.Listed.{shown_procedure}
use Rattle.pdb_code.specs.ModuleCode.{Named}
use Rattle.pdb_code.proofs.ProcedureNames.{procedure_named, procedure_there}
use Rattle.pdb_resolve.proofs.module_code.ModuleCode.procedure_naming.Goals as goal

pub titled-requires : goal.titled-requires
titled-requires c = procedure_there c.args.place c.args.self.now (shown_procedure c.args.procedure) c.requires

pub returns-in-Some-clause-named : goal.returns-in-Some-clause-named
returns-in-Some-clause-named c =
    let is = sym (ap (option_map name_bytes) c.in-Some.is) ∙ c.in_ok-name.ensures.name in
    ap (λ (n : Named). Some n) c.named_code.ensures
    ∙ procedure_named c.args.place c.args.self.now (shown_procedure c.args.procedure) (Some (name_bytes c.in-Some.name)) c.requires is

pub returns-in-None-clause-named : goal.returns-in-None-clause-named
returns-in-None-clause-named c =
    let is = sym (ap (option_map name_bytes) c.in-None.is) ∙ c.in_ok-name.ensures.name in
    procedure_named c.args.place c.args.self.now (shown_procedure c.args.procedure) None c.requires is
