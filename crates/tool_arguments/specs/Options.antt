-- What the options of a command say, read from left to right.
use Rattle.std.specs.Prelude.{ℕ, ◌+◌, List, [], ◌∷◌, length, codes, count_by, get_or, nat_lt, nat_le, Bool, true, false, ◌&&◌, ◌||◌, ◌==◌, Option, Some, None, Result, Ok, Err, if◌then◌else◌}
use Rattle.std.specs.Char.{is_ascii_hexdigit}
use Rattle.std.specs.List.{list_all}
use Rattle.std.specs.Option.{is_some}
use Rattle.std.specs.Str.{bytes_eq}
use Rattle.tool_arguments.specs.CodeAddresses.{address_number}
use Rattle.tool_arguments.specs.OptionNames.{has_option, name_part, option_in, takes_value, value_part}
use Rattle.tool_arguments.specs.declared.commands.Command.{Command}
use Rattle.tool_arguments.specs.declared.mistakes.Mistake.{Mistake}
use Rattle.tool_arguments.specs.declared.mistakes.Wrong.{Wrong}
use Rattle.tool_arguments.specs.declared.mistakes.Wrong.TheVariants.{UnknownOption, NeedsValue, TakesNoValue, GivenTwice, KeyAndImage, BadBase, BadKey}
use Rattle.tool_arguments.specs.declared.option_names.OptionName.{OptionName}
use Rattle.tool_arguments.specs.declared.option_names.OptionName.TheVariants as option
use Rattle.tool_arguments.specs.declared.options.Options.{Options}
use Rattle.tool_arguments.specs.declared.options.Detail.{Detail}
use Rattle.tool_arguments.specs.declared.options.Detail.TheVariants as detail
use Rattle.tool_arguments.specs.declared.options.OutputFormat.{OutputFormat}
use Rattle.tool_arguments.specs.declared.options.OutputFormat.TheVariants.{Text, Json}
use Rattle.tool_arguments.specs.declared.options.KeyFormat.{KeyFormat}
use Rattle.tool_arguments.specs.declared.options.KeyFormat.TheVariants.{Names, Paths, Json as Objects}
use Rattle.tool_arguments.specs.declared.options.Given.{Given}
use Rattle.tool_arguments.specs.declared.options.Next.{Next}
use Rattle.tool_arguments.specs.declared.options.Next.TheVariants.{Word, Value, Operand}
use Rattle.tool_arguments.specs.declared.options.ValueAt.{ValueAt}
use Rattle.tool_arguments.specs.declared.options.Wanted.{Wanted}
use Rattle.tool_arguments.specs.declared.options.Wanted.TheVariants.{Key, Image}

-- an argument begins with `-`, and has another byte
abbrev pub is_option_word : List ℕ → Bool
is_option_word word = nat_lt 1 (length word) && (get_or word 0 0 == 45)

-- the argument behind which none is an option
abbrev pub is_dashes : List ℕ → Bool
is_dashes word = bytes_eq word (codes "--")

-- ---- values

-- a byte of a key that counts; braces and dashes may stand there too
abbrev pub is_key_digit : ℕ → Bool
is_key_digit b = is_ascii_hexdigit b

abbrev pub is_key_byte : ℕ → Bool
is_key_byte b = is_key_digit b || (b == 123) || (b == 125) || (b == 45)

-- 33 to 40 hex digits
abbrev pub is_key : List ℕ → Bool
is_key value = nat_lt 32 (count_by is_key_digit value) && nat_le (count_by is_key_digit value) 40 && list_all is_key_byte value

abbrev pub base_given : Options → Option ℕ → Result Options Wrong
base_given o None = Err BadBase
base_given o (Some base) = Ok (record o { base = Some base })

-- a base is given once
abbrev pub with_base : Options → Option ℕ → Result Options Wrong
with_base o base = if is_some o.base then Err (GivenTwice option.Base) else base_given o base

-- so is what names the PDB that is wanted
abbrev pub wanted_behind : Options → OptionName → Wanted → Option Wanted → Result Options Wrong
wanted_behind o name new None = Ok (record o { wanted = Some new })
wanted_behind o name (Key p) (Some (Key q)) = Err (GivenTwice name)
wanted_behind o name (Image p) (Some (Image q)) = Err (GivenTwice name)
wanted_behind o name new (Some old) = Err KeyAndImage

abbrev pub with_wanted : Options → OptionName → Wanted → Result Options Wrong
with_wanted o name new = wanted_behind o name new o.wanted

-- the first folder of symbols counts as the one to file in; all of them are kept apart
abbrev pub folder_behind : Options → ValueAt → Option ValueAt → Options
folder_behind o at None = record o { folder = Some at }
folder_behind o at (Some first) = o

abbrev pub with_folder : Options → ValueAt → Options
with_folder o at = folder_behind o at o.folder

-- with an option that has this value
abbrev pub with_value : Options → OptionName → ValueAt → List ℕ → Result Options Wrong
with_value o option.Base at value = with_base o (address_number value)
with_value o option.Key at value = if is_key value then with_wanted o option.Key (Key at) else Err BadKey
with_value o option.Image at value = with_wanted o option.Image (Image at)
with_value o option.Symbols at value = Ok (with_folder o at)
with_value o name at value = Err (TakesNoValue name)

-- ---- options without a value, each given once

abbrev pub with_offsets : Options → Detail → Result Options Wrong
with_offsets o detail.Plain = Ok (record o { detail = detail.Offsets })
with_offsets o other = Err (GivenTwice option.Offsets)

abbrev pub with_json : Options → OutputFormat → Result Options Wrong
with_json o Text = Ok (record o { format = Json })
with_json o Json = Err (GivenTwice option.Json)

abbrev pub with_flag : Options → OptionName → Result Options Wrong
with_flag o option.Addresses = if o.addresses then Err (GivenTwice option.Addresses) else Ok (record o { addresses = true })
with_flag o option.Offsets = with_offsets o o.detail
with_flag o option.All = if o.all then Err (GivenTwice option.All) else Ok (record o { all = true })
with_flag o option.Path = if o.path then Err (GivenTwice option.Path) else Ok (record o { path = true })
with_flag o option.Replace = if o.replace then Err (GivenTwice option.Replace) else Ok (record o { replace = true })
with_flag o option.Json = with_json o o.format
with_flag o name = Err (GivenTwice name)

-- ---- one argument behind another

-- the option that an argument names, where the command has it
abbrev pub known_option : Command → Option OptionName → Result OptionName Wrong
known_option command None = Err UnknownOption
known_option command (Some name) = if has_option command name then Ok name else Err UnknownOption

abbrev pub option_of : Command → List ℕ → Result OptionName Wrong
option_of command word = known_option command (option_in (name_part word))

abbrev pub with_options : Given → Next → Result Options Wrong → Result Given Wrong
with_options g next (Ok o) = Ok (record { options = o; next = next })
with_options g next (Err wrong) = Err wrong

-- an option of this name, with its value behind `=` where it has one; else the value is the next argument
abbrev pub after_name : Given → ℕ → OptionName → Option (List ℕ) → Result Given Wrong
after_name g p name (Some value) = with_options g g.next (with_value g.options name (record { argument = p; is_joined = true }) value)
after_name g p name None = if takes_value name then Ok (record g { next = Value name }) else with_options g g.next (with_flag g.options name)

abbrev pub after_known : Given → ℕ → List ℕ → Result OptionName Wrong → Result Given Wrong
after_known g p word (Ok name) = after_name g p name (value_part word)
after_known g p word (Err wrong) = Err wrong

abbrev pub after_option : Command → Given → ℕ → List ℕ → Result Given Wrong
after_option command g p word = after_known g p word (option_of command word)

-- an argument at p, by what is expected there
abbrev pub after_next : Command → Given → ℕ → List ℕ → Next → Result Given Wrong
after_next command g p word Word =
    if is_dashes word then Ok (record g { next = Operand })
    else if is_option_word word then after_option command g p word
    else Ok g
after_next command g p word (Value name) = with_options g Word (with_value g.options name (record { argument = p; is_joined = false }) word)
after_next command g p word Operand = Ok g

unfoldable pub after_word : Command → Given → ℕ → List ℕ → Result Given Wrong
after_word command g p word = after_next command g p word g.next

-- ---- all arguments

abbrev pub no_options : Options
no_options = record { base = None; own_size = 0; wanted = None; addresses = false; detail = detail.Plain; all = false; path = false; replace = false; folder = None; format = Text }

-- what is said before the first argument
abbrev pub nothing_given : Given
nothing_given = record { options = no_options; next = Word }

-- behind the last argument an option may lack its value
abbrev pub ends_with : Options → Next → ℕ → Result Options Mistake
ends_with o (Value name) p = Err (record { argument = p; wrong = NeedsValue name })
ends_with o next p = Ok o

abbrev pub at_end : Given → ℕ → Result Options Mistake
at_end g p = ends_with g.options g.next p

abbrev pub or_wrong : Result Given Wrong → (Given → Result Options Mistake) → ℕ → Result Options Mistake
or_wrong (Ok g) more p = more g
or_wrong (Err wrong) more p = Err (record { argument = p; wrong = wrong })

-- the options of arguments of which the first has index p, or the first that is wrong
abbrev pub options_by : Command → Given → List (List ℕ) → ℕ → Result Options Mistake
options_by command g [] p = at_end g p
options_by command g (word ∷ words) p = or_wrong (after_word command g p word) (λ more. options_by command more words (p + 1)) p

abbrev pub options_of : Command → List (List ℕ) → ℕ → Result Options Mistake
options_of command words p = options_by command nothing_given words p

-- with the load address of an image of this size as the base, where no other is given
abbrev pub based_on : Options → ℕ → ℕ → Option ℕ → Options
based_on o own size None = record o { base = Some own; own_size = size }
based_on o own size (Some base) = o

abbrev pub with_base_of : Options → ℕ → ℕ → Options
with_base_of o own size = based_on o own size o.base

-- how the keys of files are written
abbrev pub key_format_by : OutputFormat → Bool → KeyFormat
key_format_by Json path = Objects
key_format_by Text path = if path then Paths else Names

abbrev pub key_format : Options → KeyFormat
key_format o = key_format_by o.format o.path

-- ---- what is expected behind an argument

abbrev pub value_of : Option OptionName → Next
value_of None = Word
value_of (Some name) = if takes_value name then Value name else Word

-- an option whose value isn't behind `=`
abbrev pub behind_option : List ℕ → Next
behind_option word = value_of (option_in word)

abbrev pub behind_word : Next → List ℕ → Next
behind_word Word word =
    if is_dashes word then Operand
    else if is_option_word word then behind_option word
    else Word
behind_word (Value name) word = Word
behind_word Operand word = Operand

-- ---- values again

abbrev pub joined_or : Option (List ℕ) → List ℕ → List ℕ
joined_or None word = word
joined_or (Some value) word = value

-- the value that stands there: behind the first `=` of an argument, or all of it
abbrev pub value_in : List (List ℕ) → ValueAt → List ℕ
value_in words at = if at.is_joined then joined_or (value_part (get_or words at.argument [])) (get_or words at.argument []) else get_or words at.argument []
