-- How the program ends.
use Rattle.std.specs.Prelude.{ℕ, List, Bool, true, false, Option, Some, None, Result, Ok, Err}
use Rattle.tool_arguments.specs.Requests.{AddressOf, first_needing}
use Rattle.tool_arguments.specs.declared.mistakes.Mistake.{Mistake}
use Rattle.tool_arguments.specs.declared.mistakes.Wrong.TheVariants.{NeedsBase}
use Rattle.tool_arguments.specs.declared.options.Options.{Options}
use Rattle.tool_arguments.specs.declared.tasks.FileTask.{FileTask}
use Rattle.tool_arguments.specs.declared.tasks.FileTask.TheVariants.{Find, Where}
use Rattle.tool_output.specs.Stops.{status_of}
use Rattle.tool_output.specs.declared.fault.Fault.{Fault}

-- whether finding nothing is an answer that the exit status tells
abbrev pub looks_up : FileTask → Bool
looks_up (Find format words) = true
looks_up (Where format asked) = true
looks_up task = false

-- of addresses of which one needs a load address, and none is known, the first is wrong
abbrev pub unless_needing : Option ℕ → Result (Unit {0}) Mistake
unless_needing None = Ok tt
unless_needing (Some p) = Err (record { argument = p; wrong = NeedsBase })

abbrev pub all_based : Options → List AddressOf → Result (Unit {0}) Mistake
all_based options addresses = unless_needing (first_needing options addresses)

-- the exit status: 1 where nothing was found, or a file among several is damaged or can't be read
abbrev pub exit_status : Result Bool Fault → ℕ
exit_status (Ok true) = 0
exit_status (Ok false) = 1
exit_status (Err fault) = status_of fault
