use Rattle.pdb.proofs.Passing.{unsteady_before}
use Rattle.tool_output.proofs.Stops.{halts_weaken}
use Rattle.tool_program.proofs.file_printing.print_code.Goals as goal

pub returns-clause-halts : goal.returns-clause-halts
returns-clause-halts g c =
    halts_weaken _ _ _ _ c.print_addresses.result (λ fails. unsteady_before _ _ c.in_ok-resolver.ensures.continues fails.unsteady) c.print_addresses.ensures.halts
