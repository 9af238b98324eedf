use Rattle.std.proofs.Common.{rules, ◌≡◌, ap, sym, ◌∙◌}
use Rattle.std.proofs.lemmas.Fn.{always_returns_same}
use Rattle.pdb_variables.specs.declared.told_again.VariableKey.{VariableKey}
use Rattle.pdb_types.proofs.FirstFound.{kept}
use Rattle.pdb_variables.specs.VariableViews.{key_list}
use Rattle.pdb_variables.proofs.ToldKeys.{first_key, some_key}
use Rattle.pdb_variables.proofs.told_again.sort.Goals as goal

pub returns-in-Ok-clause-rises : goal.returns-in-Ok-clause-rises
returns-in-Ok-clause-rises c = c.in-Ok.ensures.sorted (λ (k : VariableKey). k) (always_returns_same _ (λ a r. r ≡ a.0.now) _ (λ a r q k. search rules))

pub returns-in-Ok-clause-same : goal.returns-in-Ok-clause-same
returns-in-Ok-clause-same c = λ k.
    let stable = c.in-Ok.ensures.stable (λ (k : VariableKey). k) (always_returns_same _ (λ a r. r ≡ a.0.now) _ (λ a r q k. search rules)) in
    first_key _ k ∙ ap some_key (kept key_list k _ _ c.in-Ok.ensures.permutation stable) ∙ sym (first_key _ k)
