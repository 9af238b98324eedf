use Rattle.std.proofs.Common.{arith}
use Rattle.pdb_index.specs.IndexLayout.{word_at}
use Rattle.pdb_index.proofs.RisingNumbers.{more}
use Rattle.pdb_index.proofs.rising.rises.Goals as goal

pub loop-row-preserved : goal.loop-row-preserved
loop-row-preserved c =
    more (λ k. word_at c.args.bytes.now c.args.table k c.args.within) c.args.first c.loop-row.row
    (omega (arith, c.loop-row.auto.row)) c.loop-row.invariant (omega (arith, c.word.ensures, c.word-in-loop-row.ensures, c.if-word.false))
