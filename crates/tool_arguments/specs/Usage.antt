-- How a command is written.
use Rattle.std.specs.Prelude.{ℕ, List, [], ◌∷◌, ◌++◌, codes, flat_map, if◌then◌else◌}
use Rattle.tool_arguments.specs.Commands.{name_of, operands_of}
use Rattle.tool_arguments.specs.OptionNames.{has_option, options, spelled_option}
use Rattle.tool_arguments.specs.declared.commands.Command.{Command}
use Rattle.tool_arguments.specs.declared.option_names.OptionName.{OptionName}
use Rattle.tool_arguments.specs.declared.option_names.OptionName.TheVariants.{Base, Key, Image, Symbols, Addresses, Offsets, All, Path, Replace, Json}

-- how an option stands in usage: `--image` beside `--key`, which it excludes
abbrev pub usage_of : OptionName → List ℕ
usage_of Base = codes " [--base=HEX]"
usage_of Key = codes " [--key=KEY | --image=IMAGE]"
usage_of Image = codes ""
usage_of Symbols = codes " [--symbols=DIR].."
usage_of Addresses = codes " [--addresses]"
usage_of Offsets = codes " [--offsets]"
usage_of All = codes " [--all]"
usage_of Path = codes " [--path]"
usage_of Replace = codes " [--replace]"
usage_of Json = codes " [--json]"

unfoldable pub usage_part : Command → OptionName → List ℕ
usage_part command option = if has_option command option then usage_of option else []

abbrev pub behind_blank : List ℕ → List ℕ
behind_blank [] = []
behind_blank (b ∷ bs) = 32 ∷ b ∷ bs

-- its name, its options and its operands
abbrev pub usage_text : Command → List ℕ
usage_text command = codes "pdb_tool " ++ name_of command ++ flat_map (usage_part command) options ++ behind_blank (operands_of command)

-- an option of a command, behind a blank
abbrev pub listed : Command → OptionName → List ℕ
listed command option = if has_option command option then 32 ∷ spelled_option option else []
