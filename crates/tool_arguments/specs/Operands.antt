-- The operands of a command: its arguments that are no options.
use Rattle.std.specs.Prelude.{ℕ, ◌+◌, List, [], ◌∷◌, Bool, true, false, not, Option, Some, None, Result, Ok, Err, if◌then◌else◌, nat_lt}
use Rattle.std.specs.Str.{bytes_eq}
use Rattle.pdb_text.specs.Numbers.{number_in}
use Rattle.tool_arguments.specs.CodeAddresses.{address_number, spelled_in}
use Rattle.tool_arguments.specs.Options.{behind_word, is_option_word}
use Rattle.tool_arguments.specs.Requests.{AddressOf}
use Rattle.tool_arguments.specs.SourcesAsked.{SourceOf, source_of}
use Rattle.tool_arguments.specs.declared.code_address.SpelledAddress.{SpelledAddress}
use Rattle.tool_arguments.specs.declared.mistakes.Mistake.{Mistake}
use Rattle.tool_arguments.specs.declared.mistakes.Wrong.{Wrong}
use Rattle.tool_arguments.specs.declared.mistakes.Wrong.TheVariants.{BadAddress, BadModule, BadType}
use Rattle.tool_arguments.specs.declared.options.Next.{Next}
use Rattle.tool_arguments.specs.declared.options.Next.TheVariants.{Word, Value, Operand}
use Rattle.tool_arguments.specs.declared.operands.Operand.{Operand as Named}

-- an argument, and its index among all
pub record WordAt : Type 0 where
  pub argument : ℕ
  pub word : List ℕ

abbrev pub operand_view : Named → WordAt
operand_view o = record { argument = o.argument; word = o.word.now }

abbrev pub word_of : Named → List ℕ
word_of o = o.word.now

-- an argument is an operand by what is expected
abbrev pub is_operand : Next → List ℕ → Bool
is_operand Word word = not (is_option_word word)
is_operand (Value name) word = false
is_operand Operand word = true

-- the arguments that are neither an option nor its value, of arguments of which the first has index p
abbrev pub operands_of : Next → List (List ℕ) → ℕ → List WordAt
operands_of next [] p = []
operands_of next (word ∷ words) p =
    if is_operand next word then record { argument = p; word = word } ∷ operands_of (behind_word next word) words (p + 1)
    else operands_of (behind_word next word) words (p + 1)

-- ---- operands that are all of one kind

-- the values of operands, or the first that has none
abbrev pub with_first : {A : Type 0} → Result A Wrong → Result (List A) Mistake → ℕ → Result (List A) Mistake
with_first (Err wrong) rest p = Err (record { argument = p; wrong = wrong })
with_first (Ok x) (Ok xs) p = Ok (x ∷ xs)
with_first (Ok x) (Err mistake) p = Err mistake

abbrev pub all_in : {A : Type 0} → (WordAt → Result A Wrong) → List WordAt → Result (List A) Mistake
all_in of [] = Ok []
all_in of (w ∷ ws) = with_first (of w) (all_in of ws) w.argument

-- the index of the first operand that is empty
abbrev pub first_empty : List WordAt → Option ℕ
first_empty [] = None
first_empty (w ∷ ws) = if bytes_eq w.word [] then Some w.argument else first_empty ws

-- ---- addresses

abbrev pub address_by : WordAt → Option SpelledAddress → Result AddressOf Wrong
address_by w None = Err BadAddress
address_by w (Some spelled) = Ok (record { argument = w.argument; word = w.word; address = spelled })

abbrev pub address_in : WordAt → Result AddressOf Wrong
address_in w = address_by w (spelled_in w.word)

-- ---- modules, types and sources

abbrev pub or_wrong : {A : Type 0} → Option A → Wrong → Result A Wrong
or_wrong None wrong = Err wrong
or_wrong (Some x) wrong = Ok x

abbrev pub module_in : WordAt → Result ℕ Wrong
module_in w = or_wrong (number_in w.word) BadModule

-- the index of a type: a number below 2^32, spelled as an address is
abbrev pub small_index : Option ℕ → Result ℕ Wrong
small_index None = Err BadType
small_index (Some n) = if nat_lt n 4294967296 then Ok n else Err BadType

abbrev pub type_in : WordAt → Result ℕ Wrong
type_in w = small_index (address_number w.word)

abbrev pub source_in : WordAt → Result SourceOf Wrong
source_in w = source_of w.word
