use Rattle.std.proofs.Common.{ap, arith, length, length-append}
use Rattle.pdb_file.proofs.Parts.{copied_more}
use Rattle.pdb_file.proofs.source.copy_slice.Goals as goal

pub loop-done-preserved : goal.loop-done-preserved
loop-done-preserved c = record {
  fits = c.in-Some.ensures.fits;
  many = omega (arith, ap length c.in_ok-append.ensures.appended, length-append c.loop-done.all.items c.in-Some.part.now, c.loop-done.invariant.many);
  all = λ F agrees. copied_more F c.args.all.now.items c.loop-done.all.items c.append.new.all.items c.in-Some.part.now c.args.slice.offset c.loop-done.done (c.loop-done.invariant.all F agrees) c.in_ok-append.ensures.appended (c.in-Some.ensures.same F agrees);
}
