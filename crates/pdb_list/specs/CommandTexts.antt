-- The texts of lists of commands.
use Rattle.std.specs.Prelude.{ℕ, List, [], flat_map, Option, Some, None}
use Rattle.pdb.specs.Error.{Error}
use Rattle.pdb.specs.ModuleStream.{ModuleBytes}
use Rattle.pdb.specs.Error.TheVariants.{OutOfMemory}
use Rattle.pdb_list.specs.declared.command.Command.{Command}
use Rattle.pdb_list.specs.declared.command.Command.TheVariants.{Info, Names, Modules, Contributions, Sections, Globals, Symbols, Lines, Files, Inlinees, Imports, Exports}
use Rattle.pdb_list.specs.declared.engine.RunError.{RunError}
use Rattle.pdb_list.specs.declared.engine.RunError.TheVariants as run
use Rattle.pdb_list.specs.Texts.{info_text, names_text, modules_text, contributions_text, sections_text, globals_text}
use Rattle.pdb_list.specs.ModuleTexts.{module_text, symbols_of_text, lines_of_text, files_of_text, inlinees_of_text, import_of_text, exports_of_text}

-- the text of a command over what a module's stream says; nothing for a command that names no module
abbrev pub of_module_text : Command → ModuleBytes → List ℕ
of_module_text (Symbols k) m = symbols_of_text m
of_module_text (Lines k) m = lines_of_text m
of_module_text (Files k) m = files_of_text m
of_module_text (Inlinees k) m = inlinees_of_text m
of_module_text (Imports k i) m = import_of_text i m
of_module_text (Exports k) m = exports_of_text m
of_module_text command m = []

-- the text of a command over a file
abbrev pub command_text : List ℕ → Command → List ℕ
command_text file Info = info_text file
command_text file Names = names_text file
command_text file Modules = modules_text file
command_text file Contributions = contributions_text file
command_text file Sections = sections_text file
command_text file Globals = globals_text file
command_text file (Symbols k) = module_text file k (of_module_text (Symbols k))
command_text file (Lines k) = module_text file k (of_module_text (Lines k))
command_text file (Files k) = module_text file k (of_module_text (Files k))
command_text file (Inlinees k) = module_text file k (of_module_text (Inlinees k))
command_text file (Imports k i) = module_text file k (of_module_text (Imports k i))
command_text file (Exports k) = module_text file k (of_module_text (Exports k))

-- the index in the list of modules of the one that a command names
abbrev pub module_index_of : Command → Option ℕ
module_index_of (Symbols k) = Some k
module_index_of (Lines k) = Some k
module_index_of (Files k) = Some k
module_index_of (Inlinees k) = Some k
module_index_of (Imports k i) = Some k
module_index_of (Exports k) = Some k
module_index_of command = None

-- the texts of commands, joined
abbrev pub texts : List ℕ → List Command → List ℕ
texts file commands = flat_map (command_text file) commands

-- ---- a run that stopped

-- a file that can't be opened; out of memory is an error of its own
abbrev pub run_error_of : Error → RunError
run_error_of OutOfMemory = run.OutOfMemory
run_error_of e = run.Open e
