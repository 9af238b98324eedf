use Rattle.pdb_base.proofs.Tilings.{is_listing, only_listing}
use Rattle.pdb_base.proofs.Readings.{row_inside}
use Rattle.pdb_dbi.specs.Modules.{module_at, module_length, modules}
use Rattle.pdb_dbi.proofs.Lists.{modules_within}
use Rattle.pdb_dbi.proofs.laws.one_list_of_modules.Goals as goal

pub returns-clause-is : goal.returns-clause-is
returns-clause-is c b = is_listing modules (row_inside module_at module_length modules_within) b 0

pub returns-clause-only : goal.returns-clause-only
returns-clause-only c b left is = only_listing modules (row_inside module_at module_length modules_within) b 0 left is
