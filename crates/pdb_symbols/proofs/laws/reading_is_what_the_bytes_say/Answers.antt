use Rattle.pdb_symbols.proofs.Records.{record_is, is_record, record_refused}
use Rattle.pdb_symbols.proofs.laws.reading_is_what_the_bytes_say.Goals as goal

pub returns-clause-says : goal.returns-clause-says
returns-clause-says c b d e = record_is b d e

pub returns-clause-reads : goal.returns-clause-reads
returns-clause-reads c b d h = is_record b d h

pub returns-clause-refused : goal.returns-clause-refused
returns-clause-refused c b e h = record_refused b e h
