use Rattle.std.proofs.Common.{List, sym, ap, subst, ◌∙◌}
use Rattle.std.specs.Option.{option_map}
use Rattle.pdb_code.specs.declared.procedures.ListedProcedure.{ListedProcedure}
use Rattle.pdb_code.specs.ModuleCode.{procedure_at, procedures_in}
use Rattle.pdb_code.specs.Listed.{shown_procedure, listed_with, AreNumbersRising}
use Rattle.pdb_code.proofs.FoundProcedures.{procedure_found, numbers_rise}
use Rattle.pdb_code.proofs.Scopes.{CodesRise}
use Rattle.pdb_code.proofs.SiteCalls.{procedures_rise}
use Rattle.pdb_resolve.proofs.module_code.ModuleCode.procedure.Goals as goal

pub procedure_with-requires : goal.procedure_with-requires
procedure_with-requires c =
    subst AreNumbersRising (sym c.as_slice.ensures.value)
    (numbers_rise c.self.inside.listed.items (subst CodesRise (sym c.self.invariant.5) (procedures_rise c.self.inside.info.now)))

pub returns-in-Some : goal.returns-in-Some
returns-in-Some c =
    let m = c.self.inside.info.now in
    let q = c.args.place in
    let index = c.in-Some.index in
    ap (option_map shown_procedure) (c.procedure_with.ensures ∙ ap (λ (ps : List ListedProcedure). listed_with ps index) c.as_slice.ensures.value)
    ∙ (procedure_found q index (procedures_in m) c.self.inside.listed.items (procedures_rise m) c.self.invariant.5 (sym (c.in-Some.ensures ∙ c.self.invariant.0.finds q))
    ∙ ap (procedure_at q) c.self.view_is)
