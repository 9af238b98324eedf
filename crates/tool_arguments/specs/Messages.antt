-- The messages on arguments that are wrong.
use Rattle.std.specs.Prelude.{ℕ, List, [], ◌∷◌, ◌++◌, codes, flat_map, slice_index_or, Bool, true, false, Option, Some, None, if◌then◌else◌}
use Rattle.std.specs.List.{list_any}
use Rattle.pdb_text.specs.OneLine.{one_line}
use Rattle.tool_arguments.specs.Commands.{command_of, commands, name_of}
use Rattle.tool_arguments.specs.OptionNames.{has_option, name_part, options, placeholder_of, spelled_option}
use Rattle.tool_arguments.specs.Usage.{listed, usage_text}
use Rattle.tool_arguments.specs.declared.commands.Command.{Command}
use Rattle.tool_arguments.specs.declared.commands.Command.TheVariants as command
use Rattle.tool_arguments.specs.declared.mistakes.Mistake.{Mistake}
use Rattle.tool_arguments.specs.declared.mistakes.Wrong.{Wrong}
use Rattle.tool_arguments.specs.declared.mistakes.Wrong.TheVariants as wrong
use Rattle.tool_arguments.specs.declared.option_names.OptionName.{OptionName}

-- an argument as a text shows it, between two texts
unfoldable pub between : List ℕ → List ℕ → List ℕ → List ℕ
between before word behind = before ++ one_line word ++ behind

abbrev pub needs_value : OptionName → List ℕ
needs_value o = (spelled_option o ++ codes " needs a value: ") ++ (spelled_option o ++ codes "=") ++ placeholder_of o

-- the options of a command are named where it has some
abbrev pub option_names : Command → List ℕ
option_names c = if list_any (has_option c) options then codes " has" ++ flat_map (listed c) options else codes " has no options"

abbrev pub unknown_option : Command → List ℕ → List ℕ
unknown_option c word = between (codes "unknown option ") (name_part word) (codes ": ") ++ (name_of c ++ option_names c)

abbrev pub suggestion : Option Command → List ℕ
suggestion None = []
suggestion (Some c) = between (codes "; did you mean ") (name_of c) (codes "?")

abbrev pub unknown_command : List ℕ → Option Command → List ℕ
unknown_command word closest = between (codes "unknown command: ") word [] ++ suggestion closest

abbrev pub most_operands : Command → List ℕ
most_operands command.Help = codes " takes one COMMAND, and not "
most_operands command.Version = codes " takes no operands, and not "
most_operands command.Stream = codes " takes one STREAM, and not "
most_operands c = codes " takes one FILE, and not "

abbrev pub further : Command → List ℕ → List ℕ
further c word = name_of c ++ between (most_operands c) word []

abbrev pub wrong_option : Command → List ℕ → Wrong → List ℕ
wrong_option c word wrong.UnknownOption = unknown_option c word
wrong_option c word (wrong.NeedsValue o) = needs_value o
wrong_option c word (wrong.TakesNoValue o) = spelled_option o ++ codes " takes no value"
wrong_option c word (wrong.GivenTwice o) = spelled_option o ++ codes " is given twice"
wrong_option c word wrong.KeyAndImage = codes "--key and --image exclude each other"
wrong_option c word wrong.BadBase = between [] word (codes ": HEX is 1 to 16 hex digits")
wrong_option c word wrong.BadKey = between [] word (codes ": KEY is 33 to 40 hex digits")
wrong_option c word other = []

abbrev pub wrong_operand : List ℕ → Wrong → List ℕ
wrong_operand word wrong.MissingFile = codes "FILE is missing"
wrong_operand word wrong.MissingName = codes "NAME is missing"
wrong_operand word wrong.MissingSource = codes "SOURCE is missing"
wrong_operand word wrong.MissingStream = codes "STREAM is missing"
wrong_operand word wrong.MissingFolder = codes "store needs a folder: --symbols=DIR"
wrong_operand word wrong.EmptyName = codes "NAME is empty"
wrong_operand word wrong.BadAddress = between (codes "'") word (codes "' is not an address: write 1108, 0x1108 or 1:108; find prints the addresses of names")
wrong_operand word wrong.NeedsBase = between [] word (codes " needs the load address: --base=HEX")
wrong_operand word wrong.BadModule = between (codes "'") word (codes "' is not the index of a module: pdb_tool modules FILE lists them")
wrong_operand word wrong.ModuleOfAll = between [] word (codes ": symbols --all prints all modules, and takes no K")
wrong_operand word wrong.BadType = between (codes "'") word (codes "' is not the index of a type: write HEX, as in 1000")
wrong_operand word wrong.BadSource = between (codes "'") word (codes "' names no source file: write SOURCE, SOURCE:63 or SOURCE:63-70")
wrong_operand word wrong.BadLines = between (codes "'") word (codes "' names no lines: write the lower line first, as in SOURCE:63-70")
wrong_operand word other = []

abbrev pub is_of_option : Wrong → Bool
is_of_option wrong.UnknownOption = true
is_of_option (wrong.NeedsValue o) = true
is_of_option (wrong.TakesNoValue o) = true
is_of_option (wrong.GivenTwice o) = true
is_of_option wrong.KeyAndImage = true
is_of_option wrong.BadBase = true
is_of_option wrong.BadKey = true
is_of_option other = false

-- what is wrong with an argument of a command
abbrev pub why : Command → List ℕ → Wrong → Option Command → List ℕ
why c word wrong.UnknownCommand closest = unknown_command word closest
why c word wrong.FurtherOperand closest = further c word
why c word other closest = if is_of_option other then wrong_option c word other else wrong_operand word other

-- the name of a command behind a blank
abbrev pub command_behind : Command → List ℕ
command_behind c = 32 ∷ name_of c

-- what to write instead: a command, or the command as it is written
abbrev pub hint : Command → Wrong → List ℕ
hint c wrong.UnknownCommand = codes "commands:" ++ flat_map command_behind commands
hint c other = codes "usage: " ++ usage_text c

-- the message on the first wrong argument; closest is the command that is suggested where it names none
abbrev pub message_of : List (List ℕ) → Mistake → Option Command → List ℕ
message_of words m closest = codes "pdb_tool: " ++ why (command_of words) (slice_index_or words m.argument []) m.wrong closest ++ codes "\n" ++ hint (command_of words) m.wrong ++ codes "\n"
