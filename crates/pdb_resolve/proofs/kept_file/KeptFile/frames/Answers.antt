use Rattle.pdb_resolve.proofs.Continuing.{with_tables}
use Rattle.pdb_resolve.proofs.kept_file.KeptFile.frames.Goals as goal

pub returns-in-Some-listed_code-clause-kept : goal.returns-in-Some-listed_code-clause-kept
returns-in-Some-listed_code-clause-kept g c = with_tables c.other.new.pdb c.frames.new.pdb c.other.new.self c.frames.new.self c.frames.ensures.continues c.other.ensures.kept c.frames.ensures.kept
