use Rattle.pdb_places.proofs.BackAgain.{leads_back}
use Rattle.pdb_places.proofs.place_laws.the_address_of_a_place_leads_back.Goals as goal

pub returns : goal.returns
returns c = leads_back
