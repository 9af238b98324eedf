use Rattle.tool_program.proofs.WholeFiles.{whole_is, whole_stops}
use Rattle.tool_program.proofs.key_line.whole.Goals as goal

pub returns-in-Ok-clause-bytes : goal.returns-in-Ok-clause-bytes
returns-in-Ok-clause-bytes g c = λ known size.
    whole_is _ _ _ size (c.in-Ok.ensures.bytes (c.view.ensures.continues.known known).1)

pub returns-in-Err-clause-stops : goal.returns-in-Err-clause-stops
returns-in-Err-clause-stops g c = λ known size.
    rw c.stop_of_opening.ensures.is (whole_stops _ _ _ c.in-Err.e size (c.in-Err.ensures.bytes (c.view.ensures.continues.known known).1))
