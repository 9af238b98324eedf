use Rattle.std.proofs.Common.{refl, sym, true≢false, arith}
use Rattle.pdb_file.proofs.FreeRuns.{held_more}
use Rattle.pdb_file.proofs.source.is_held.Goals as goal

pub returns-in_default : goal.returns-in_default
returns-in_default c = (λ h. absurd (true≢false (sym h)), λ all. absurd (c.in_default.ensures.missing refl (all _ (omega arith) (omega arith))))

pub loop-seen-preserved : goal.loop-seen-preserved
loop-seen-preserved c = record {
  fits = c.in-Some.ensures.fits;
  held = held_more c.args.held.now c.args.slice.offset c.loop-seen.seen _ c.loop-seen.invariant.held c.in-Some.ensures.held;
}
