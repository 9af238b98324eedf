-- What commands over several files print.
use Rattle.std.specs.Prelude.{◌≡◌, ℕ, List, [], Bool, false, ◌⊎◌, Result, Ok, Err}
use Rattle.std.specs.List.{list_all}
use Rattle.tool_arguments.specs.Operands.{WordAt}
use Rattle.tool_output.specs.declared.each_file.FileText.{FileText}
use Rattle.tool_output.specs.declared.fault.Fault.{Fault}
use Rattle.tool_output.specs.declared.fault.Fault.TheVariants.{Stopped}
use Rattle.tool_output.specs.declared.stop.Stop.{Stop}
use Rattle.tool_output.specs.declared.stop.Stop.TheVariants.{Memory, Write}
use Rattle.tool_printing.specs.Printing.{Shown, all_shown}

-- the text of a file, and whether nothing is wrong with it
pub record TextOf : Type 0 where
  pub text : List ℕ
  pub is_well : Bool

abbrev pub file_text_view : FileText → TextOf
file_text_view p = record { text = p.text.items; is_well = p.is_well }

-- nothing is printed of a file that has none, and something is wrong with it
abbrev pub text_in : Result TextOf Stop → List ℕ
text_in (Ok t) = t.text
text_in (Err stop) = []

abbrev pub is_well_in : Result TextOf Stop → Bool
is_well_in (Ok t) = t.is_well
is_well_in (Err stop) = false

-- damage of a file is its text's matter
abbrev pub file_shown : Result TextOf Stop → Shown
file_shown of = record { bytes = text_in of; damaged = false }

-- the texts of files, one after another, and whether nothing is wrong with any
abbrev pub texts_of : (WordAt → Result TextOf Stop) → List WordAt → Shown
texts_of of names = all_shown (λ name. file_shown (of name)) names

abbrev pub are_well : (WordAt → Result TextOf Stop) → List WordAt → Bool
are_well of names = list_all (λ name. is_well_in (of name)) names

-- a call returned the text of a file, or why there is none, or was out of memory
abbrev pub GivesText : Result FileText Stop → Result TextOf Stop → Type 0
GivesText (Ok p) text = text ≡ Ok (file_text_view p)
GivesText (Err stop) text = (stop ≡ Memory) ⊎ (text ≡ Err stop)

-- only these end a command over several files: out of memory at a file, and that its text can't be printed
abbrev pub IsEnding : Fault → Type 0
IsEnding (Stopped stop argument) = (stop ≡ Memory) ⊎ (stop ≡ Write)
IsEnding fault = ⊥
