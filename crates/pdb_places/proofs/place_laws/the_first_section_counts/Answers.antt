use Rattle.pdb_places.proofs.FirstSections.{first_counts, none_counts}
use Rattle.pdb_places.proofs.place_laws.the_first_section_counts.Goals as goal

pub returns : goal.returns
returns c = record { first = first_counts; none = none_counts }
