use Rattle.std.proofs.Common.{rules, ◌≡◌, ap, sym, ◌∙◌}
use Rattle.std.proofs.lemmas.Fn.{always_returns_same}
use Rattle.pdb_types.specs.declared.definitions.Definition.{Definition}
use Rattle.pdb_types.proofs.FirstFound.{kept}
use Rattle.pdb_types.proofs.DefinitionLists.{key_of, first_row, row_index}
use Rattle.pdb_types.proofs.definitions.sort.Goals as goal

pub returns-clause-rises : goal.returns-clause-rises
returns-clause-rises c = c.in_ok-sort_by_key.ensures.sorted (λ (d : Definition). d.key) (always_returns_same _ (λ a r. r ≡ a.0.now.key) _ (λ a r q k. search rules))

pub returns-clause-first : goal.returns-clause-first
returns-clause-first c = λ k.
    let stable = c.in_ok-sort_by_key.ensures.stable (λ (d : Definition). d.key) (always_returns_same _ (λ a r. r ≡ a.0.now.key) _ (λ a r q k. search rules)) in
    first_row _ k ∙ ap row_index (kept key_of k _ _ c.in_ok-sort_by_key.ensures.permutation stable) ∙ sym (first_row _ k)
