-- The texts of the commands that look names and files up.
use Rattle.std.specs.Prelude.{ℕ, List, ◌++◌}
use Rattle.pdb.specs.Answers.{string_table_in}
use Rattle.pdb_places.specs.AsIfEmpty.{if_read}
use Rattle.tool_search.specs.SourceTexts.{sources_text}
use Rattle.tool_search.specs.FindTexts.{Finding, find_in, finding_in, globals_found}
use Rattle.tool_arguments.specs.SourcesAsked.{SourceOf}
use Rattle.tool_search.specs.WhereTexts.{asking_in, where_in}
use Rattle.tool_arguments.specs.declared.options.OutputFormat.{OutputFormat}
use Rattle.tool_output.specs.ModuleTexts.{modules_text, plain_text}

-- `sources`: files have their names from the string table
abbrev pub sources_command : OutputFormat → List ℕ → List ℕ → List ℕ
sources_command format file ks = modules_text format (λ k. sources_text format k (if_read (string_table_in file))) file ks

-- `find`: those of the global symbols, and then those of all modules
abbrev pub found_by : List ℕ → Finding → List ℕ
found_by file f = globals_found file f ++ plain_text f.format (find_in f file) file

abbrev pub find_command : OutputFormat → List ℕ → List (List ℕ) → List ℕ
find_command format file words = found_by file (finding_in format file words)

-- `where`: those of all modules
abbrev pub where_command : OutputFormat → List ℕ → List SourceOf → List ℕ
where_command format file asked = plain_text format (where_in (asking_in format file asked) file) file
