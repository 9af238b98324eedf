use Rattle.pdb_base.proofs.Fronts.{front_begins, front_refuses}
use Rattle.pdb_base.proofs.laws.front_is_the_beginning.Goals as goal

pub returns-clause-beginning : goal.returns-clause-beginning
returns-clause-beginning c file n limit bytes = front_begins file n limit bytes

pub returns-clause-refusal : goal.returns-clause-refusal
returns-clause-refusal c file n limit page pages = front_refuses file n limit page pages
