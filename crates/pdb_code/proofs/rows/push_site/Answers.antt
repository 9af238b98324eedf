use Rattle.std.proofs.Common.{sym, subst}
use Rattle.std.specs.List.{All}
use Rattle.std.proofs.lemmas.List.Elements.{All-push}
use Rattle.pdb_code.specs.Listed.{IsBounded}
use Rattle.pdb_code.proofs.rows.push_site.Goals as goal

pub returns-in-Ok-clause-bounded : goal.returns-in-Ok-clause-bounded
returns-in-Ok-clause-bounded c = λ h. subst (All IsBounded) (sym c.in-Ok.ensures.items) (All-push IsBounded _ _ h c.new.ensures.bounded)
