use Rattle.std.proofs.Common.{sym, ◌∙◌}
use Rattle.pdb.specs.Forms.{record_at}
use Rattle.pdb.specs.Views.{symbol_of}
use Rattle.pdb_list.proofs.Sites.{passed_over}
use Rattle.pdb_list.proofs.inlinees.here_of.Goals as goal

pub returns-then-not-starts_scope : goal.returns-then-not-starts_scope
returns-then-not-starts_scope c = passed_over (record_at (symbol_of c.args.symbol.now).bytes) (λ d e h. sym (c.starts_scope.ensures.says d e h) ∙ c.if-not-starts_scope.true)
