use Rattle.pdb_text.proofs.Written.{appends_then, goes_on}
use Rattle.pdb_text.proofs.output.write_out.Goals as goal

pub loop-at-preserved : goal.loop-at-preserved
loop-at-preserved g c =
    let next = goes_on c.args.bytes.now c.loop-at.at c.in-Ok.n c.loop-at.invariant.within c.in-Ok.ensures.bound in
    record {
      within = next.0;
      told = rw (← next.1) (appends_then (g.W.Write.contents c.args.out.now) (g.W.Write.contents c.loop-at.out) (g.W.Write.contents c.write.new.self) _ _ c.loop-at.invariant.told c.in-Ok.ensures.bytes);
    }
