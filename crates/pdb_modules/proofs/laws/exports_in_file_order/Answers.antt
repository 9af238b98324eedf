use Rattle.pdb_modules.proofs.LookupLaws.{exports_count, exports_places}
use Rattle.pdb_modules.proofs.laws.exports_in_file_order.Goals as goal

pub returns-clause-count : goal.returns-clause-count
returns-clause-count c part xs h = exports_count part xs h

pub returns-clause-places : goal.returns-clause-places
returns-clause-places c part xs h i d l = exports_places part xs h i d l
