use Rattle.pdb_base.proofs.Tilings.{is_listing, only_listing}
use Rattle.pdb_base.proofs.laws.one_listing.Goals as goal

pub returns-clause-is : goal.returns-clause-is
returns-clause-is g c row b p r = is_listing row r b p

pub returns-clause-only : goal.returns-clause-only
returns-clause-only g c row b p left r is = only_listing row r b p left is
