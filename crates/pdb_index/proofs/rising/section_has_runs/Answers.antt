use Rattle.pdb_index.proofs.rising.section_has_runs.Goals as goal

pub returns : goal.returns
returns c = rw (← c.word-first.ensures, ← c.word-behind.ensures) c.has_runs.ensures
