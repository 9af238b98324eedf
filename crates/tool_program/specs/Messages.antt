-- What is printed on standard error of a file.
use Rattle.std.specs.Prelude.{ℕ, List, ◌++◌, codes, Option, Some, None}
use Rattle.std.specs.Fmt.{decimal}
use Rattle.pdb_paths.specs.FileNames.{file_name}
use Rattle.pdb_text.specs.OneLine.{one_line}
use Rattle.tool_arguments.specs.StreamsAsked.{StreamOf}
use Rattle.tool_arguments.specs.StreamsAsked.StreamOf.{called, numbered}
use Rattle.tool_fields.specs.Values.{behind_blank}

-- a name on one line, between two texts
unfoldable pub named : List ℕ → List ℕ → List ℕ → List ℕ
named before name behind = before ++ one_line name ++ behind

-- a line on a file
unfoldable pub about : List ℕ → List ℕ → List ℕ
about name text = named (codes "pdb_tool: ") name (codes ": ") ++ text ++ codes "\n"

-- the key that it should have: an image needs it, or else an argument is it
unfoldable pub needed : Option (List ℕ) → List ℕ → List ℕ
needed None key = codes ", and not " ++ key
needed (Some image) key = named (codes ", ") image (codes " needs ") ++ key

-- that it is another PDB than the wanted one, by its key
unfoldable pub wrong_pdb : List ℕ → List ℕ
wrong_pdb name = named (codes "pdb_tool: wrong PDB: ") name (codes " has the key ")

unfoldable pub other_key : List ℕ → List ℕ → Option (List ℕ) → List ℕ → List ℕ
other_key name key image wanted = wrong_pdb name ++ key ++ needed image wanted ++ codes "\n"

-- that it lacks a stream
unfoldable pub lacking : StreamOf → List ℕ
lacking (numbered n) = decimal n
lacking (called name) = codes "called " ++ one_line name

abbrev pub lacks_stream : List ℕ → StreamOf → List ℕ
lacks_stream name asked = named (codes "pdb_tool: ") name (codes " has no stream ") ++ lacking asked

abbrev pub no_stream : List ℕ → StreamOf → List ℕ
no_stream name asked = lacks_stream name asked ++ codes ": pdb_tool streams FILE lists them\n"

-- that the PDB of an image, which has this path and this key, isn't found
unfoldable pub no_pdb : List ℕ → List ℕ → List ℕ → List ℕ
no_pdb image path key = about image (codes "its PDB" ++ behind_blank (file_name path) ++ codes " " ++ key ++ codes " is not found")
