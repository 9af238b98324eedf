-- What the program has to do, by its arguments alone.
use Rattle.std.specs.Prelude.{ℕ, ◌+◌, List, [], ◌∷◌, codes, length, map, Bool, true, false, ◌||◌, Option, Some, None, Result, Ok, Err, if◌then◌else◌}
use Rattle.std.specs.Str.{bytes_eq}
use Rattle.tool_arguments.specs.Commands.{command_in, named_in}
use Rattle.tool_arguments.specs.Operands.{WordAt, address_in, all_in, first_empty, module_in, operand_view, operands_of, source_in, type_in}
use Rattle.tool_arguments.specs.Options.{behind_word, key_format, options_of}
use Rattle.tool_arguments.specs.Requests.{AddressOf, address_view}
use Rattle.tool_arguments.specs.SourcesAsked.{SourceOf}
use Rattle.tool_arguments.specs.SourceViews.{source_view}
use Rattle.tool_arguments.specs.StreamsAsked.{StreamOf, stream_of, stream_view}
use Rattle.tool_arguments.specs.declared.commands.Command.{Command}
use Rattle.tool_arguments.specs.declared.commands.Command.TheVariants as command
use Rattle.tool_arguments.specs.declared.mistakes.Mistake.{Mistake}
use Rattle.tool_arguments.specs.declared.mistakes.Wrong.{Wrong}
use Rattle.tool_arguments.specs.declared.mistakes.Wrong.TheVariants as wrong
use Rattle.tool_arguments.specs.declared.options.Next.{Next}
use Rattle.tool_arguments.specs.declared.options.Next.TheVariants.{Word}
use Rattle.tool_arguments.specs.declared.options.Detail.TheVariants.{Variables}
use Rattle.tool_arguments.specs.declared.options.KeyFormat.{KeyFormat}
use Rattle.tool_arguments.specs.declared.options.Options.{Options}
use Rattle.tool_arguments.specs.declared.options.ValueAt.{ValueAt}
use Rattle.tool_arguments.specs.declared.options.OutputFormat.{OutputFormat}
use Rattle.tool_arguments.specs.declared.tasks.FileTask.{FileTask}
use Rattle.tool_arguments.specs.declared.tasks.FileTask.TheVariants as file_task
use Rattle.tool_arguments.specs.declared.tasks.Storing.{Storing}
use Rattle.tool_arguments.specs.declared.tasks.Task.{Task}
use Rattle.tool_arguments.specs.declared.tasks.Task.TheVariants as task

-- what is printed of one file
pub data FileTaskOf : Type 0 where
  code : Options → List AddressOf → FileTaskOf
  lines : List ℕ → FileTaskOf
  scopes : List ℕ → FileTaskOf
  symbols : List ℕ → FileTaskOf
  all_symbols : FileTaskOf
  types : List ℕ → FileTaskOf
  sources : OutputFormat → List ℕ → FileTaskOf
  finds : OutputFormat → List WordAt → FileTaskOf
  wheres : OutputFormat → List SourceOf → FileTaskOf
  modules : OutputFormat → FileTaskOf
  sections : OutputFormat → FileTaskOf
  frames : OutputFormat → FileTaskOf
  streams : OutputFormat → FileTaskOf

abbrev pub file_task_view : FileTask → FileTaskOf
file_task_view (file_task.Code o addresses) = code o (map address_view addresses.items)
file_task_view (file_task.Lines ks) = lines ks.items
file_task_view (file_task.Scopes ks) = scopes ks.items
file_task_view (file_task.Symbols ks) = symbols ks.items
file_task_view file_task.AllSymbols = all_symbols
file_task_view (file_task.Types indices) = types indices.items
file_task_view (file_task.Sources format ks) = sources format ks.items
file_task_view (file_task.Find format names) = finds format (map operand_view names.items)
file_task_view (file_task.Where format asked) = wheres format (map source_view asked.items)
file_task_view (file_task.Modules format) = modules format
file_task_view (file_task.Sections format) = sections format
file_task_view (file_task.Frames format) = frames format
file_task_view (file_task.Streams format) = streams format

-- the task, over the files of operands
pub data TaskOf : Type 0 where
  help : Option Command → TaskOf
  list_help : TaskOf
  version : TaskOf
  keys : KeyFormat → List WordAt → TaskOf
  checks : OutputFormat → List WordAt → TaskOf
  store : Storing → List WordAt → TaskOf
  resolve : Options → WordAt → List AddressOf → TaskOf
  resolve_lines : Options → WordAt → TaskOf
  stream : WordAt → StreamOf → TaskOf
  of_file : WordAt → FileTaskOf → TaskOf

abbrev pub task_view : Task → TaskOf
task_view (task.Help c) = help c
task_view task.ListHelp = list_help
task_view task.Version = version
task_view (task.Keys format files) = keys format (map operand_view files.items)
task_view (task.Checks format files) = checks format (map operand_view files.items)
task_view (task.Store storing files) = store storing (map operand_view files.items)
task_view (task.Resolve o f addresses) = resolve o (operand_view f) (map address_view addresses.items)
task_view (task.ResolveLines o f) = resolve_lines o (operand_view f)
task_view (task.Stream f asked) = stream (operand_view f) (stream_view asked)
task_view (task.File f t) = of_file (operand_view f) (file_task_view t)

abbrev pub missing : {A : Type 0} → ℕ → Wrong → Result A Mistake
missing p w = Err (record { argument = p; wrong = w })

-- a task with the values of operands, or the first that has none
abbrev pub given : {A : Type 0} → (List A → TaskOf) → Result (List A) Mistake → Result TaskOf Mistake
given make (Ok xs) = Ok (make xs)
given make (Err mistake) = Err mistake

-- a task behind whose operands none stands
abbrev pub ending : TaskOf → List WordAt → Wrong → Result TaskOf Mistake
ending t [] w = Ok t
ending t (o ∷ os) w = missing o.argument w

-- addresses; without one they are the lines of standard input
abbrev pub addresses_task : Options → WordAt → List WordAt → Result TaskOf Mistake
addresses_task o f [] = Ok (resolve_lines o f)
addresses_task o f (w ∷ ws) = given (resolve o f) (all_in address_in (w ∷ ws))

-- names, of which none may be empty; n is where one is missing
abbrev pub unless_empty : TaskOf → Option ℕ → Result TaskOf Mistake
unless_empty t None = Ok t
unless_empty t (Some p) = missing p wrong.EmptyName

abbrev pub find_task : OutputFormat → WordAt → List WordAt → ℕ → Result TaskOf Mistake
find_task format f [] n = missing n wrong.MissingName
find_task format f (w ∷ ws) n = unless_empty (of_file f (finds format (w ∷ ws))) (first_empty (w ∷ ws))

abbrev pub where_task : OutputFormat → WordAt → List WordAt → ℕ → Result TaskOf Mistake
where_task format f [] n = missing n wrong.MissingSource
where_task format f (w ∷ ws) n = given (λ asked. of_file f (wheres format asked)) (all_in source_in (w ∷ ws))

-- a stream; n is where it is missing
abbrev pub stream_task : WordAt → List WordAt → ℕ → Result TaskOf Mistake
stream_task f [] n = missing n wrong.MissingStream
stream_task f (w ∷ ws) n = ending (stream f (stream_of w.word)) ws wrong.FurtherOperand

abbrev pub symbols_task : Options → WordAt → List WordAt → Result TaskOf Mistake
symbols_task o f rest = if o.all then ending (of_file f all_symbols) rest wrong.ModuleOfAll else given (λ ks. of_file f (symbols ks)) (all_in module_in rest)

-- of modules
abbrev pub over_modules : Command → OutputFormat → List ℕ → FileTaskOf
over_modules command.Lines format ks = lines ks
over_modules command.Scopes format ks = scopes ks
over_modules c format ks = sources format ks

abbrev pub module_task : Command → Options → WordAt → List WordAt → Result TaskOf Mistake
module_task c o f rest = given (λ ks. of_file f (over_modules c o.format ks)) (all_in module_in rest)

-- a command of a file and further operands; n is the number of arguments
abbrev pub over_file : Command → Options → WordAt → List WordAt → ℕ → Result TaskOf Mistake
over_file command.Resolve o f rest n = addresses_task o f rest
over_file command.Variables o f rest n = addresses_task (record o { detail = Variables }) f rest
over_file command.Symbols o f rest n = symbols_task o f rest
over_file command.Types o f rest n = given (λ indices. of_file f (types indices)) (all_in type_in rest)
over_file command.Find o f rest n = find_task o.format f rest n
over_file command.Where o f rest n = where_task o.format f rest n
over_file command.Modules o f rest n = ending (of_file f (modules o.format)) rest wrong.FurtherOperand
over_file command.Sections o f rest n = ending (of_file f (sections o.format)) rest wrong.FurtherOperand
over_file command.Frames o f rest n = ending (of_file f (frames o.format)) rest wrong.FurtherOperand
over_file command.Stream o f rest n = stream_task f rest n
over_file command.Streams o f rest n = ending (of_file f (streams o.format)) rest wrong.FurtherOperand
over_file c o f rest n = module_task c o f rest

-- the first operand, and those behind it
abbrev pub split_first : List WordAt → Option (WordAt × List WordAt)
split_first [] = None
split_first (w ∷ ws) = Some (w, ws)

-- help of a command
abbrev pub help_of : Option Command → WordAt → List WordAt → Result TaskOf Mistake
help_of None w rest = missing w.argument wrong.UnknownCommand
help_of (Some c) w rest = ending (help (Some c)) rest wrong.FurtherOperand

abbrev pub help_task : List WordAt → Result TaskOf Mistake
help_task [] = Ok (help None)
help_task (w ∷ rest) = if bytes_eq w.word (codes "list") then ending list_help rest wrong.FurtherOperand else help_of (command_in w.word) w rest

-- of files, of which there is one; n is the number of arguments
abbrev pub keys_task : KeyFormat → List WordAt → ℕ → Result TaskOf Mistake
keys_task format [] n = missing n wrong.MissingFile
keys_task format (w ∷ ws) n = Ok (keys format (w ∷ ws))

abbrev pub checks_task : OutputFormat → List WordAt → ℕ → Result TaskOf Mistake
checks_task format [] n = missing n wrong.MissingFile
checks_task format (w ∷ ws) n = Ok (checks format (w ∷ ws))

-- files that are filed in a folder, of which there is one; n is where the first or the folder is missing
abbrev pub stored_in : Option ValueAt → Bool → List WordAt → ℕ → Result TaskOf Mistake
stored_in None replaces files n = missing n wrong.MissingFolder
stored_in (Some folder) replaces files n = Ok (store (record { folder = folder; replaces = replaces }) files)

abbrev pub store_task : Options → List WordAt → ℕ → Result TaskOf Mistake
store_task o [] n = missing n wrong.MissingFile
store_task o (w ∷ ws) n = stored_in o.folder o.replace (w ∷ ws) n

abbrev pub over_split : Command → Options → Option (WordAt × List WordAt) → ℕ → Result TaskOf Mistake
over_split c o None n = missing n wrong.MissingFile
over_split c o (Some x) n = over_file c o x.0 x.1 n

abbrev pub over_operands : Command → Options → List WordAt → ℕ → Result TaskOf Mistake
over_operands command.Help o operands n = help_task operands
over_operands command.Version o operands n = ending version operands wrong.FurtherOperand
over_operands command.Key o operands n = keys_task (key_format o) operands n
over_operands command.Check o operands n = checks_task o.format operands n
over_operands command.Store o operands n = store_task o operands n
over_operands c o operands n = over_split c o (split_first operands) n

abbrev pub is_help : List ℕ → Bool
is_help word = bytes_eq word (codes "-h") || bytes_eq word (codes "--help")

-- an argument asks for help where an option may stand: the value of an option, and what stands behind `--`, doesn't
abbrev pub asks_for_help : Next → List ℕ → Bool
asks_for_help Word word = is_help word
asks_for_help next word = false

-- one of these arguments asks for help
abbrev pub wants_help : Next → List (List ℕ) → Bool
wants_help next [] = false
wants_help next (word ∷ words) = if asks_for_help next word then true else wants_help (behind_word next word) words

abbrev pub with_options : Command → List (List ℕ) → Result Options Mistake → ℕ → Result TaskOf Mistake
with_options c words (Ok o) n = over_operands c o (operands_of Word words 1) n
with_options c words (Err mistake) n = Err mistake

-- a command with these arguments; n is their number with the command's name
abbrev pub behind_command : Command → List (List ℕ) → ℕ → Result TaskOf Mistake
behind_command c words n = if wants_help Word words then Ok (help (Some c)) else with_options c words (options_of c words 1) n

abbrev pub behind_name : Option Command → List (List ℕ) → ℕ → Result TaskOf Mistake
behind_name None words n = missing 0 wrong.UnknownCommand
behind_name (Some c) words n = behind_command c words n

-- the task of arguments, or the one that is wrong: their number where one is missing
unfoldable pub task_of : List (List ℕ) → Result TaskOf Mistake
task_of [] = Ok (help None)
task_of (word ∷ words) = if is_help word then Ok (help None) else behind_name (named_in word) words (length words + 1)
