use Rattle.pdb_records.proofs.RecordReadings.{further_says, says_further, further_refused}
use Rattle.pdb_records.proofs.laws.further_reading_is_what_the_bytes_say.Goals as goal

pub returns-clause-says : goal.returns-clause-says
returns-clause-says c b d e = further_says b d e

pub returns-clause-reads : goal.returns-clause-reads
returns-clause-reads c b d h = says_further b d h

pub returns-clause-refused : goal.returns-clause-refused
returns-clause-refused c b e h = further_refused b e h
