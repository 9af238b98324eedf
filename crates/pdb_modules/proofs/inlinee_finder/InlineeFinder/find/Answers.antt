use Rattle.std.proofs.Common.{rules, ◌≡◌, sym, ◌∙◌}
use Rattle.std.proofs.lemmas.Fn.{always_returns_same}
use Rattle.pdb_modules.proofs.FirstInlinees.{less, is_at, found_there, none_there, none_other}
use Rattle.pdb_modules.proofs.inlinee_finder.InlineeFinder.find.Goals as goal
use Rattle.pdb_modules.proofs.inlinee_finder.InlineeFinder.find.Goals.{in_default-via-in-Some+else-index-id, in_default-via-in_default}

pub returns-in-Some : goal.returns-in-Some
returns-in-Some c =
    let value = c.as_slice-sorted.ensures.value in
    let same : c.as_slice-sorted.result.now ≡ c.args.self.now = value ∙ c.self.view_is in
    let at = is_at c.args.id.0 c.self.inside.sorted.items _ _ c.self.invariant value (c.partition_point-at.ensures.partitioned (less c.args.id.0) (always_returns_same _ (λ a r. r ≡ less c.args.id.0 a.0.now) _ (λ a r q k. search rules))) in
    let look = c.in-Some.ensures.lookup in
    rw same at (sym (found_there c.args.id.0 _ _ c.in-Some.inlinee.now at look.3.0 (sym look.1) (rw c.index.ensures at c.if-index-id.true)))

pub returns-in_default : goal.returns-in_default
returns-in_default c =
    let value = c.as_slice-sorted.ensures.value in
    let same : c.as_slice-sorted.result.now ≡ c.args.self.now = value ∙ c.self.view_is in
    let at = is_at c.args.id.0 c.self.inside.sorted.items _ _ c.self.invariant value (c.partition_point-at.ensures.partitioned (less c.args.id.0) (always_returns_same _ (λ a r. r ≡ less c.args.id.0 a.0.now) _ (λ a r q k. search rules))) in
    elim c.in_default.branch [
      | in_default-via-in-Some+else-index-id w ↦ let look = w.in-Some.ensures.lookup in rw same at (sym (none_other c.args.id.0 _ _ w.in-Some.inlinee.now at look.3.0 (sym look.1) (rw w.index.ensures at w.if-index-id.false)))
      | in_default-via-in_default w ↦ rw same at (sym (none_there c.args.id.0 _ _ at (rw w.in_default.is at c.get.ensures.lookup).3))
    ]
