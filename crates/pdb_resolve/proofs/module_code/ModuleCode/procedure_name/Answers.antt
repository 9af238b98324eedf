use Rattle.std.proofs.Common.{sym, subst, ◌∙◌}
use Rattle.pdb.specs.ModuleStream.{ModuleBytes}
use Rattle.pdb_code.specs.ModuleCode.{symbols_in}
use Rattle.pdb_code.specs.Kept.{IsListed}
use Rattle.pdb_code.proofs.SiteCalls.{procedure_listed}
use Rattle.pdb_resolve.proofs.module_code.ModuleCode.procedure_name.Goals as goal

pub procedure_name_of-requires : goal.procedure_name_of-requires
procedure_name_of-requires c =
    subst (λ (m : ModuleBytes). IsListed c.in-Some.index (symbols_in m)) c.self.view_is
    (procedure_listed c.args.place c.self.inside.info.now c.in-Some.index (sym (c.in-Some.ensures ∙ c.self.invariant.0.finds c.args.place)))
