use Rattle.std.proofs.Common.{sym, subst, ◌∙◌}
use Rattle.pdb.specs.ModuleStream.{ModuleBytes}
use Rattle.pdb_code.specs.ModuleCode.{symbols_in}
use Rattle.pdb_code.specs.Kept.{IsListed}
use Rattle.pdb_code.proofs.SiteCalls.{begun_listed}
use Rattle.pdb_resolve.proofs.module_code.ModuleCode.begun_name.Goals as goal

pub procedure_name_of-requires : goal.procedure_name_of-requires
procedure_name_of-requires c =
    subst (λ (m : ModuleBytes). IsListed c.in-Some.index (symbols_in m)) (sym c.in_ok-index.ensures.stays)
    (begun_listed c.args.place c.args.self.now c.in-Some.index (sym c.in_ok-index.ensures.found ∙ c.in-Some.is))
