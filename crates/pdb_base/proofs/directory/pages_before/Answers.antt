use Rattle.std.proofs.Common.{◌≡◌, ◌≤◌, ◌*◌, ◌^◌, length, arith, ap, ◌∙◌, sym}
use Rattle.std.proofs.lemmas.List.{length-append}
use Rattle.std.specs.List.{sum_by, range_with_len}
use Rattle.pdb_base.specs.Container.{pages_of}
use Rattle.pdb_base.proofs.Nums.{pages_more, each_pushed}
use Rattle.pdb_base.proofs.directory.pages_before.Goals as goal

pub loop-stream-preserved : goal.loop-stream-preserved
loop-stream-preserved c =
    let now = c.loop-stream.invariant in
    record {
      pages = omega (arith, pages_more c.args.directory.now c.args.page_size c.loop-stream.stream, c.pages_of.ensures.pages);
      little = omega (arith, c.pages_of.ensures.small);
      each = each_pushed (λ k n. n ≡ sum_by (pages_of c.args.directory.now c.args.page_size) (range_with_len 0 k)) c.loop-stream.before.items _ _ c.in_ok-push.ensures.items now.each (now.pages ∙ ap (λ k. sum_by (pages_of c.args.directory.now c.args.page_size) (range_with_len 0 k)) (sym now.count));
      small = each_pushed (λ k n. n ≤ k * 2 ^ 25) c.loop-stream.before.items _ _ c.in_ok-push.ensures.items now.small (omega (arith, now.little, now.count));
      count = ap length c.in_ok-push.ensures.items ∙ simp length-append (omega (arith, now.count));
    }
