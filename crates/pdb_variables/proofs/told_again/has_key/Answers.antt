use Rattle.std.proofs.Common.{rules, ◌≡◌, ap, sym, ◌∙◌}
use Rattle.std.specs.Ordering.{is_eq}
use Rattle.std.proofs.lemmas.Fn.{always_returns_same}
use Rattle.pdb_variables.specs.VariableViews.{key_list}
use Rattle.pdb_types.proofs.FirstFound.{known, lower, parted, nothing_there}
use Rattle.pdb_variables.proofs.ToldKeys.{first_key, has_it, some_key}
use Rattle.pdb_variables.proofs.told_again.has_key.Goals as goal

pub returns-in-None : goal.returns-in-None
returns-in-None c =
    let k = key_list c.args.key in
    let point = c.partition_point-at.ensures.partitioned (lower key_list k) (always_returns_same _ (λ a r. r ≡ lower key_list k a.0.now) _ (λ a r q k. search rules)) (parted key_list k _ c.requires) in
    sym (first_key _ k ∙ ap some_key (nothing_there key_list k _ _ point c.in-None.ensures.lookup.3))

pub returns-in-Some : goal.returns-in-Some
returns-in-Some c =
    let k = key_list c.args.key in
    let point = c.partition_point-at.ensures.partitioned (lower key_list k) (always_returns_same _ (λ a r. r ≡ lower key_list k a.0.now) _ (λ a r q k. search rules)) (parted key_list k _ c.requires) in
    let look = c.in-Some.ensures.lookup in
    let is : is_eq c.cmp.result ≡ known key_list k c.in-Some.row.now = search rules in
    c.is_eq.ensures ∙ is ∙ sym (first_key _ k ∙ has_it k _ _ c.in-Some.row.now c.requires point look.3.0 (sym look.1))
