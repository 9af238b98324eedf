use Rattle.std.proofs.Common.{◌∙◌}
use Rattle.pdb_code.proofs.SiteCalls.{on_ok}
use Rattle.pdb_variables.proofs.VariableWalks.{all_found}
use Rattle.pdb_variables.proofs.variables.variables_of.Goals as goal

pub returns-in-Some-symbols_behind-2-clause-variables : goal.returns-in-Some-symbols_behind-2-clause-variables
returns-in-Some-symbols_behind-2-clause-variables c =
    on_ok _ _ (λ vs e. e ∙ all_found _ _ _ _ _ _ _ _ _ c.bases_of-bases.ensures c.in_ok-told-in-Some.ensures.is c.in-Some-symbols_behind.ensures c.in-Some.ensures c.in-Some-symbols_behind-2.ensures) c.variables_ahead.result c.variables_ahead.ensures.variables
