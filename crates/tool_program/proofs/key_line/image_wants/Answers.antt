use Rattle.pdb_file.proofs.Known.{known_at_first}
use Rattle.tool_program.proofs.Passed.{composing_only}
use Rattle.tool_program.proofs.key_line.image_wants.Goals as goal

pub returns-in_err-all-clause-stopped : goal.returns-in_err-all-clause-stopped
returns-in_err-all-clause-stopped g c = λ G known size s memory read of.
    let here = known_at_first _ _ _ _ _ G c.new-source.ensures c.new-file.ensures known size in
    let stops = rw here.1 at (c.in_err-all.ensures.stops here.0) in
    absurd (composing_only _ c.from_residual.result _ s c.from_residual.ensures.1 (stops size) memory read of)

pub returns-clause-wants : goal.returns-clause-wants
returns-clause-wants g c = λ G known size.
    let here = known_at_first _ _ _ _ _ G c.new-source.ensures c.new-file.ensures known size in
    let all = rw here.1 at (c.in_ok-all.ensures.bytes here.0) in
    rw (c.as_slice.ensures, all size) at c.wants_in.ensures.wants

pub returns-clause-stopped : goal.returns-clause-stopped
returns-clause-stopped g c = λ G known size s memory read.
    let here = known_at_first _ _ _ _ _ G c.new-source.ensures c.new-file.ensures known size in
    let all = rw here.1 at (c.in_ok-all.ensures.bytes here.0) in
    let stopped = rw (c.as_slice.ensures, all size) at c.wants_in.ensures.stopped in
    stopped s memory
