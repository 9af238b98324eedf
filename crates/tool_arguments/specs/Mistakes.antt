-- What arguments ask for, or the first that is wrong.
use Rattle.std.specs.Prelude.{◌≡◌, Result, Ok, Err}
use Rattle.tool_arguments.specs.declared.mistakes.Mistake.{Mistake}
use Rattle.tool_arguments.specs.declared.mistakes.TaskError.{TaskError}
use Rattle.tool_arguments.specs.declared.mistakes.TaskError.TheVariants as error

-- a call returned what arguments ask for, seen by view, or the one that is wrong, or was out of memory
abbrev pub Judges : {X Y : Type 0} → (X → Y) → Result X TaskError → Result Y Mistake → Type 0
Judges view (Ok x) judged = judged ≡ Ok (view x)
Judges view (Err (error.Mistake m)) judged = judged ≡ Err m
Judges view (Err error.OutOfMemory) judged = Unit {0}
