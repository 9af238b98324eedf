-- The lines of errors, in the format of the output.
use Rattle.std.specs.Prelude.{List, ℕ, [], ◌++◌, codes, Option, Some, None, Result, Ok, Err}
use Rattle.json.specs.Json.{Json, null, object, string, Members, no_members, member}
use Rattle.pdb.specs.Error.{Error}
use Rattle.pdb.specs.Left.{Left}
use Rattle.pdb.specs.Refusal.{number_of}
use Rattle.tool_output.specs.ErrorLine.{error_line, message_of}
use Rattle.tool_output.specs.Objects.{json_line, number_value, text_value}
use Rattle.tool_printing.specs.Printing.{mark}
use Rattle.tool_arguments.specs.declared.options.OutputFormat.{OutputFormat}
use Rattle.tool_arguments.specs.declared.options.OutputFormat.TheVariants.{Text, Json as Objects}

-- the error's number, and what its Display writes
abbrev pub error_members : Error → Members
error_members e = member (codes "error") (number_value (number_of e)) (member (codes "text") (text_value (message_of e)) no_members)

-- of a part of a module, by the module's index; `null` outside modules
abbrev pub error_value : Json → Error → Json
error_value «module» e = object (member (codes "module") «module» (error_members e))

-- of what isn't there
abbrev pub none_value : Json → Json
none_value «module» = object (member (codes "module") «module» (member (codes "error") null (member (codes "text") (string (codes "none")) no_members)))

-- ---- outside modules

abbrev pub error_in : OutputFormat → Error → List ℕ
error_in Text e = error_line e
error_in Objects e = mark ++ json_line (error_value null e)

abbrev pub none_in : OutputFormat → List ℕ
none_in Text = codes "none\n"
none_in Objects = json_line (none_value null)

-- the line of a fault, where there is one
abbrev pub fault_in : OutputFormat → Option Error → List ℕ
fault_in format None = []
fault_in format (Some e) = error_in format e

-- the text of what was read, or the line of its error
abbrev pub told_in : {A : Type 0} → OutputFormat → Result A Error → (A → List ℕ) → List ℕ
told_in format (Ok x) text = text x
told_in format (Err e) text = error_in format e

-- ---- of module k

abbrev pub error_of : OutputFormat → ℕ → Error → List ℕ
error_of Text k e = error_line e
error_of Objects k e = mark ++ json_line (error_value (number_value k) e)

abbrev pub none_of : OutputFormat → ℕ → List ℕ
none_of Text k = codes "none\n"
none_of Objects k = json_line (none_value (number_value k))

abbrev pub fault_of : OutputFormat → ℕ → Option Error → List ℕ
fault_of format k None = []
fault_of format k (Some e) = error_of format k e

-- the line of the error by which a list is refused, or at which it ends
abbrev pub list_fault_of : {A : Type 0} → OutputFormat → ℕ → Result (Left A) Error → List ℕ
list_fault_of format k (Ok left) = fault_of format k left.fault
list_fault_of format k (Err e) = error_of format k e

abbrev pub told_of : {A : Type 0} → OutputFormat → ℕ → Result A Error → (A → List ℕ) → List ℕ
told_of format k (Ok x) text = text x
told_of format k (Err e) text = error_of format k e
