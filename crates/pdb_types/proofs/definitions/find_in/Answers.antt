use Rattle.std.proofs.Common.{rules, ◌≡◌, ap, sym, ◌∙◌}
use Rattle.std.proofs.lemmas.Fn.{always_returns_same}
use Rattle.pdb_types.specs.DefinitionViews.{key_list}
use Rattle.pdb_types.proofs.FirstFound.{lower, parted, nothing_there, found_there, other_there}
use Rattle.pdb_types.proofs.DefinitionLists.{key_of, first_row, row_index}
use Rattle.pdb_types.proofs.definitions.find_in.Goals as goal

pub returns-in_err-row : goal.returns-in_err-row
returns-in_err-row c =
    let k = key_list c.args.key in
    let point = c.partition_point-at.ensures.partitioned (lower key_of k) (always_returns_same _ (λ a r. r ≡ lower key_of k a.0.now) _ (λ a r q k. search rules)) (parted key_of k _ c.requires) in
    c.from_residual.ensures ∙ sym (first_row _ k ∙ ap row_index (nothing_there key_of k _ _ point c.in_err-row.ensures.lookup.3))

pub returns-then-is_eq : goal.returns-then-is_eq
returns-then-is_eq c =
    let k = key_list c.args.key in
    let point = c.partition_point-at.ensures.partitioned (lower key_of k) (always_returns_same _ (λ a r. r ≡ lower key_of k a.0.now) _ (λ a r q k. search rules)) (parted key_of k _ c.requires) in
    let look = c.in_ok-row.ensures.lookup in
    sym (first_row _ k ∙ ap row_index (found_there key_of k _ _ c.in_ok-row.row.now point look.3.0 (sym look.1) (search rules)))

pub returns-else-is_eq : goal.returns-else-is_eq
returns-else-is_eq c =
    let k = key_list c.args.key in
    let point = c.partition_point-at.ensures.partitioned (lower key_of k) (always_returns_same _ (λ a r. r ≡ lower key_of k a.0.now) _ (λ a r q k. search rules)) (parted key_of k _ c.requires) in
    let look = c.in_ok-row.ensures.lookup in
    sym (first_row _ k ∙ ap row_index (other_there key_of k _ _ c.in_ok-row.row.now c.requires point look.3.0 (sym look.1) (search rules)))
