use Rattle.std.proofs.Common.{◌≡◌, ℕ, None, replicate, subst}
use Rattle.tool_types.proofs.KeptLemmas.{no_more}
use Rattle.tool_types.proofs.kept_ends.vacant.Goals as goal

pub returns : goal.returns
returns c =
    let rows = c.loop-rows.rows.items in
    subst (λ (n : ℕ). rows ≡ replicate n None) (no_more _ c.loop-rows.invariant.few (rw (c.len.ensures, c.loop-rows.rows.ok.0) at c.loop-rows-test.false)) c.loop-rows.invariant.vacant
