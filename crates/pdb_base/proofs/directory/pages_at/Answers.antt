use Rattle.std.proofs.Common.{sym, ◌∙◌, arith}
use Rattle.pdb_base.proofs.Nums.{pages_at-none, pages_at-some}
use Rattle.pdb_base.proofs.directory.pages_at.Goals as goal

pub returns-then-needed-eq0-clause-pages : goal.returns-then-needed-eq0-clause-pages
returns-then-needed-eq0-clause-pages c = pages_at-none c.args.directory.now c.args.page_size c.args.stream c.args.size (sym c.div_ceil-needed.ensures ∙ c.if-needed-eq0.true)

pub returns-clause-pages : goal.returns-clause-pages
returns-clause-pages c =
    rw c.div_ceil-needed.ensures (pages_at-some c.args.directory.now c.args.page_size c.args.stream c.args.size c.numbers_at-at.result c.numbers_at-at.ensures.at (omega (arith, c.div_ceil-needed.ensures)))
