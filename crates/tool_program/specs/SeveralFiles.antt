-- What is printed of each of several files.
use Rattle.std.specs.Prelude.{ℕ, List, Result, Ok, Err, true}
use Rattle.pdb.specs.Container.{opens}
use Rattle.pdb.specs.Error.{Error}
use Rattle.tool_arguments.specs.Operands.{WordAt}
use Rattle.tool_arguments.specs.declared.options.KeyFormat.{KeyFormat}
use Rattle.tool_arguments.specs.declared.options.OutputFormat.{OutputFormat}
use Rattle.tool_check.specs.CheckTexts.{check_text, findings_text, is_nothing}
use Rattle.tool_output.specs.EachFile.{TextOf}
use Rattle.tool_output.specs.declared.stop.Stop.{Stop}
use Rattle.tool_output.specs.declared.stop.Stop.TheVariants.{Open}
use Rattle.tool_program.specs.KeyLines.{key_line}

-- what a file gives, where it can be opened
abbrev pub of_file : {X : Type 0} → Result (List ℕ) Stop → (List ℕ → Result X Stop) → Result X Stop
of_file (Ok file) text = text file
of_file (Err s) text = Err s

abbrev pub line_told : Result (List ℕ) Stop → Result TextOf Stop
line_told (Ok line) = Ok (record { text = line; is_well = true })
line_told (Err s) = Err s

-- the line of its key
abbrev pub keyed : KeyFormat → WordAt → Result (List ℕ) Stop → Result TextOf Stop
keyed format name file = of_file file (λ bytes. line_told (key_line format name.word bytes))

abbrev pub checked_by : OutputFormat → List ℕ → List ℕ → Result (Unit {0}) Error → Result TextOf Stop
checked_by format name file (Ok opened) = Ok (record { text = check_text format name file; is_well = is_nothing (findings_text format name file) })
checked_by format name file (Err e) = Err (Open e)

-- what is wrong with it, or that nothing is
abbrev pub checked : OutputFormat → WordAt → Result (List ℕ) Stop → Result TextOf Stop
checked format name file = of_file file (λ bytes. checked_by format name.word bytes (opens bytes))
