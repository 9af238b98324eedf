-- What a file hasn't is no error.
use Rattle.std.specs.Prelude.{ℕ, ◌==◌, Bool, true, false, if◌then◌else◌, List, [], Result, Ok, Err}
use Rattle.pdb.specs.Error.{Error}
use Rattle.pdb.specs.Error.TheVariants.{GlobalSymbolsNotFound, StreamNotFound}
use Rattle.pdb.specs.Container.{stream_size}
use Rattle.tool_arguments.specs.declared.options.OutputFormat.{OutputFormat}
use Rattle.tool_output.specs.ErrorObjects.{error_in}

-- the size of a stream that isn't there: it isn't in the directory, or has no byte
abbrev pub is_nothing : Result ℕ Error → Bool
is_nothing (Ok n) = n == 0
is_nothing (Err (StreamNotFound s)) = true
is_nothing (Err e) = false

-- stream n of a file isn't there
unfoldable pub lacks : List ℕ → ℕ → Bool
lacks file n = is_nothing (stream_size file n)

-- a text by stream n; nothing where that isn't there
abbrev pub if_there : List ℕ → ℕ → List ℕ → List ℕ
if_there file n text = if lacks file n then [] else text

-- the refusal of what isn't there
abbrev pub is_absence : Error → Bool
is_absence (StreamNotFound s) = true
is_absence GlobalSymbolsNotFound = true
is_absence e = false

-- the line of a refusal; none where it is of what isn't there
abbrev pub refusal_in : OutputFormat → Error → List ℕ
refusal_in format e = if is_absence e then [] else error_in format e

-- the text of what was read, or the line of its refusal
abbrev pub there_in : {A : Type 0} → OutputFormat → Result A Error → (A → List ℕ) → List ℕ
there_in format (Ok x) text = text x
there_in format (Err e) text = refusal_in format e
