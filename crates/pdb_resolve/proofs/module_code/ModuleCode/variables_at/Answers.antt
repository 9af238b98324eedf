use Rattle.std.proofs.Common.{◌≡◌, Some, map, sym, ap, subst, ◌∙◌}
use Rattle.pdb.specs.ModuleStream.{ModuleBytes}
use Rattle.pdb_code.specs.Kept.{IsListed}
use Rattle.pdb_code.specs.ModuleCode.{function_at, procedure_at, symbols_in}
use Rattle.pdb_variables.specs.Variables.{variables_at}
use Rattle.pdb_variables.specs.VariableViews.{shown_variable}
use Rattle.pdb_code.proofs.SiteCalls.{function_listed, on_ok}
use Rattle.pdb_resolve.proofs.VariablesFound.{none_found, those_found}
use Rattle.pdb_resolve.proofs.module_code.ModuleCode.variables_at.Goals as goal

pub variables_of-requires : goal.variables_of-requires
variables_of-requires c =
    subst (λ (m : ModuleBytes). IsListed c.in-Some.index.0 (symbols_in m)) (sym c.self.view_is)
    (function_listed c.args.place c.args.self.now c.in-Some.index.0 (sym c.in-Some.ensures))

pub returns-in_default-clause-variables : goal.returns-in_default-clause-variables
returns-in_default-clause-variables c = ap (map shown_variable) c.new.ensures.items ∙ none_found c.args.place c.args.self.now (sym c.in_default.ensures)

pub returns-clause-variables : goal.returns-clause-variables
returns-clause-variables c =
    let m = c.self.inside.info.now in
    let q = c.args.place in
    let found : Some c.in-Some.index.0 ≡ function_at q m = c.in-Some.ensures ∙ ap (function_at q) (sym c.self.view_is) in
    on_ok _ _ (λ vs e. e ∙ (those_found q m c.in-Some.index.0 _ _ found c.self.invariant.3 (c.procedure.ensures ∙ ap (procedure_at q) (sym c.self.view_is)) ∙ ap (variables_at q) c.self.view_is)) c.variables_of.result c.variables_of.ensures.variables
