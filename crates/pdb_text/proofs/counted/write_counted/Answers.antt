use Rattle.std.proofs.Common.{◌∙◌}
use Rattle.pdb_text.proofs.Written.{appends_then, goes_on}
use Rattle.pdb_text.proofs.counted.write_counted.Goals as goal

pub loop-at-preserved : goal.loop-at-preserved
loop-at-preserved g c =
    let next = goes_on c.args.bytes.now c.loop-at.at c.in_ok-at.field-0 c.loop-at.invariant.within c.in_ok-at.ensures.bound in
    record {
      within = next.0;
      told = rw (← next.1) (appends_then (g.W.Write.contents c.args.out.now) (g.W.Write.contents c.loop-at.out) (g.W.Write.contents c.write_part.new.self) _ _ c.loop-at.invariant.told c.in_ok-at.ensures.bytes);
      failures = c.in_ok-at.ensures.failures ∙ c.loop-at.invariant.failures;
    }
