use Rattle.pdb_file.proofs.Known.{known_at_first}
use Rattle.tool_program.proofs.key_line.file_key.Goals as goal

pub returns-clause-key : goal.returns-clause-key
returns-clause-key g c = λ G known size.
    let here = known_at_first _ _ _ _ _ G c.new-source.ensures c.new-file.ensures known size in
    let key = rw here.1 at (c.key_of_source.ensures.key here.0) in
    key size

pub returns-clause-stopped : goal.returns-clause-stopped
returns-clause-stopped g c = λ G known size.
    let here = known_at_first _ _ _ _ _ G c.new-source.ensures c.new-file.ensures known size in
    let stopped = rw here.1 at (c.key_of_source.ensures.stopped here.0) in
    stopped size
