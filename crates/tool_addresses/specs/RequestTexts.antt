-- The texts that answer addresses and lines.
use Rattle.std.specs.Prelude.{ℕ, List, ◌++◌, Bool, false, codes, Option, Some, None}
use Rattle.pdb.specs.PdbInternalSectionOffset.{PdbInternalSectionOffset}
use Rattle.pdb_resolve.specs.Resolved.{frames_of_file}
use Rattle.tool_addresses.specs.CodeTexts.{code_text, is_damaged_at, place_at}
use Rattle.tool_arguments.specs.CodeAddresses.{without_blanks}
use Rattle.tool_arguments.specs.Requests.{RequestOf, StyleOf, address_view, request_in, request_of}
use Rattle.tool_arguments.specs.Requests.StyleOf.{frames, headed, object_of}
use Rattle.tool_arguments.specs.declared.options.Detail.{Detail}
use Rattle.tool_arguments.specs.declared.options.Options.{Options}
use Rattle.tool_arguments.specs.declared.options.OutputFormat.{OutputFormat}
use Rattle.tool_arguments.specs.declared.options.OutputFormat.TheVariants.{Text, Json}
use Rattle.tool_arguments.specs.declared.requests.AddressWord.{AddressWord}
use Rattle.tool_output.specs.Objects.{json_line}
use Rattle.tool_printing.specs.Printing.{Shown}
use Rattle.tool_search.specs.FrameObjects.{asked_value, unasked_value}

-- the object of an argument, and of the frames of its place
unfoldable pub asked_line : List ℕ → List ℕ → Option PdbInternalSectionOffset → List ℕ
asked_line file word place = json_line (asked_value word (frames_of_file file place))

-- the argument is a line
abbrev pub styled_text : List ℕ → Detail → StyleOf → Option PdbInternalSectionOffset → List ℕ
styled_text file detail frames place = code_text file detail place
styled_text file detail (headed word) place = word ++ codes "\n" ++ code_text file detail place
styled_text file detail (object_of word) place = asked_line file word place

unfoldable pub request_text : List ℕ → RequestOf → List ℕ
request_text file r = styled_text file r.detail r.style (place_at file r.address)

-- it has damage where what is read of the module at its place has an error
abbrev pub request_shown : List ℕ → RequestOf → Shown
request_shown file r = record { bytes = request_text file r; damaged = is_damaged_at file r.address }

-- of an argument
abbrev pub address_shown : List ℕ → Options → AddressWord → Shown
address_shown file options a = request_shown file (request_of options (address_view a))

-- the text of a line that is no address: itself, and a line end, or a JSON object
abbrev pub unasked_text : OutputFormat → List ℕ → List ℕ
unasked_text Text line = line ++ codes "\n"
unasked_text Json line = json_line (unasked_value line)

-- of a line
abbrev pub shown_or : List ℕ → OutputFormat → List ℕ → Option RequestOf → Shown
shown_or file format line None = record { bytes = unasked_text format line; damaged = false }
shown_or file format line (Some r) = request_shown file r

unfoldable pub line_shown : List ℕ → Options → List ℕ → Shown
line_shown file options line = shown_or file options.format line (request_in options (without_blanks line))
