-- Why the program failed.
use Rattle.tool_arguments.specs.declared.mistakes.TaskError.{TaskError}
use Rattle.tool_arguments.specs.declared.mistakes.TaskError.TheVariants as error
use Rattle.tool_output.specs.declared.fault.Fault.{Fault}
use Rattle.tool_output.specs.declared.fault.Fault.TheVariants.{Mistaken, Stopped}
use Rattle.tool_output.specs.declared.stop.Stop.TheVariants.{Memory}

-- of arguments that ask for nothing
abbrev pub fault_of_task : TaskError → Fault
fault_of_task (error.Mistake m) = Mistaken m
fault_of_task error.OutOfMemory = Stopped Memory 0
