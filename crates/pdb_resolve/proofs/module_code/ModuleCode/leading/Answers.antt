use Rattle.std.proofs.Common.{sym, subst, ◌∙◌}
use Rattle.pdb.specs.ModuleStream.{ModuleBytes}
use Rattle.pdb_code.specs.ModuleCode.{symbols_in}
use Rattle.pdb_code.specs.Kept.{IsListed}
use Rattle.pdb_code.proofs.SiteCalls.{trampoline_listed}
use Rattle.pdb_resolve.proofs.module_code.ModuleCode.leading.Goals as goal

pub said-requires : goal.said-requires
said-requires c =
    subst (λ (m : ModuleBytes). IsListed c.in-Some.index (symbols_in m)) c.self.view_is
    (trampoline_listed c.args.place c.self.inside.info.now c.in-Some.index (sym (c.in-Some.ensures ∙ c.self.invariant.9.finds c.args.place)))
