-- How many writes failed by the end of a call: one more where it stopped since a write failed, and else as before.
use Rattle.std.specs.Prelude.{ℕ, ◌+◌, Result, Err}
use Rattle.tool_output.specs.declared.stop.Stop.{Stop}
use Rattle.tool_output.specs.declared.stop.Stop.TheVariants.{Write}
use Rattle.tool_output.specs.declared.fault.Fault.{Fault}
use Rattle.tool_output.specs.declared.fault.Fault.TheVariants.{Stopped}

-- a call that writes a text of a file
abbrev pub failures_after : {X : Type 0} → ℕ → Result X Stop → ℕ
failures_after n (Err Write) = n + 1
failures_after n result = n

-- a command over several files
abbrev pub failures_ending : {X : Type 0} → ℕ → Result X Fault → ℕ
failures_ending n (Err (Stopped Write argument)) = n + 1
failures_ending n result = n
