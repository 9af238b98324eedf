use Rattle.pdb_modules.proofs.Sorting.{is_ordering, only_ordering}
use Rattle.pdb_modules.proofs.laws.subsections_have_one_order.Goals as goal

pub returns : goal.returns
returns c = record { is = is_ordering; only = only_ordering }
