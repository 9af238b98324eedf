use Rattle.pdb_file.proofs.source.view_held.Goals as goal

pub returns-in-Some-2-clause-bytes : goal.returns-in-Some-2-clause-bytes
returns-in-Some-2-clause-bytes c = λ F agrees. rw c.in-Some-2.is at (c.in_ok-all.ensures.bytes F agrees)
