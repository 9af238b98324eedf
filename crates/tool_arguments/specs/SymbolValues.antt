-- The folders of symbol files that arguments name.
use Rattle.std.specs.Prelude.{ℕ, ◌+◌, List, [], ◌∷◌, Bool, true, false, Option, Some, None, if◌then◌else◌}
use Rattle.tool_arguments.specs.Operands.{WordAt}
use Rattle.tool_arguments.specs.OptionNames.{name_part, option_in, value_part}
use Rattle.tool_arguments.specs.Options.{behind_word}
use Rattle.tool_arguments.specs.declared.option_names.OptionName.{OptionName}
use Rattle.tool_arguments.specs.declared.option_names.OptionName.TheVariants.{Symbols}
use Rattle.tool_arguments.specs.declared.options.Next.{Next}
use Rattle.tool_arguments.specs.declared.options.Next.TheVariants.{Word, Value, Operand}

abbrev pub is_symbols : Option OptionName → Bool
is_symbols (Some Symbols) = true
is_symbols option = false

-- `--symbols=DIR`
abbrev pub joined_value : List ℕ → Option (List ℕ)
joined_value word = if is_symbols (option_in (name_part word)) then value_part word else None

-- the folder that an argument names, by what is expected there: behind `--symbols` it is the argument
abbrev pub value_there : Next → List ℕ → Option (List ℕ)
value_there Word word = joined_value word
value_there (Value Symbols) word = Some word
value_there next word = None

abbrev pub with_value : Option (List ℕ) → ℕ → List WordAt → List WordAt
with_value None p rest = rest
with_value (Some value) p rest = record { argument = p; word = value } ∷ rest

-- the folders that arguments name, of which the first has index p, in order
abbrev pub symbol_values : Next → List (List ℕ) → ℕ → List WordAt
symbol_values next [] p = []
symbol_values next (word ∷ words) p = with_value (value_there next word) p (symbol_values (behind_word next word) words (p + 1))
