use Rattle.pdb_base.proofs.Tilings.{is_listing, only_listing}
use Rattle.pdb_types.specs.MemberLists.{entries}
use Rattle.pdb_types.proofs.MemberSteps.{entries_inside}
use Rattle.pdb_types.proofs.laws.one_list_of_entries.Goals as goal

pub returns-clause-is : goal.returns-clause-is
returns-clause-is c b p = is_listing entries entries_inside b p

pub returns-clause-only : goal.returns-clause-only
returns-clause-only c b p left is = only_listing entries entries_inside b p left is
