-- The commands that words spell.
use Rattle.std.specs.Prelude.{ℕ, zero, suc, ◌+◌, List, [], ◌∷◌, ◌++◌, length, codes, Bool, true, false, ◌||◌, Option, Some, None, Result, Ok, Err, nat_lt, if◌then◌else◌, slice_index_or}
use Rattle.std.specs.Str.{bytes_eq}
use Rattle.pdb_text.specs.Numbers.{number_in}
use Rattle.pdb_list.specs.declared.command.Command.{Command}
use Rattle.pdb_list.specs.declared.command.Command.TheVariants.{Info, Names, Modules, Contributions, Sections, Globals, Symbols, Lines, Files, Inlinees, Imports, Exports}

-- no words, or the one word `sample`: the program runs over the sample
abbrev pub asks_for_sample : List (List ℕ) → Bool
asks_for_sample [] = true
asks_for_sample (word ∷ []) = bytes_eq word (codes "sample")
asks_for_sample (word ∷ next ∷ rest) = false

-- the word at p, empty behind the last one
abbrev pub word_at : List (List ℕ) → ℕ → List ℕ
word_at words p = slice_index_or words p []

-- the command of one word, where there is one
abbrev pub plain_command : List ℕ → Option Command
plain_command word =
    if bytes_eq word (codes "info") then Some Info
    else if bytes_eq word (codes "names") then Some Names
    else if bytes_eq word (codes "modules") then Some Modules
    else if bytes_eq word (codes "contributions") then Some Contributions
    else if bytes_eq word (codes "sections") then Some Sections
    else if bytes_eq word (codes "globals") then Some Globals
    else None

-- a word behind which a module's number stands
abbrev pub takes_module : List ℕ → Bool
takes_module word =
    bytes_eq word (codes "symbols") || bytes_eq word (codes "lines") || bytes_eq word (codes "files") || bytes_eq word (codes "inlinees") || bytes_eq word (codes "exports")

-- the command of such a word and number
abbrev pub module_command : List ℕ → ℕ → Command
module_command word k =
    if bytes_eq word (codes "symbols") then Symbols k
    else if bytes_eq word (codes "lines") then Lines k
    else if bytes_eq word (codes "files") then Files k
    else if bytes_eq word (codes "inlinees") then Inlinees k
    else Exports k

-- the number that the word at p is, or the index of the bad word
abbrev pub number_or : Option ℕ → ℕ → Result ℕ ℕ
number_or (Some n) p = Ok n
number_or None p = Err p

abbrev pub number_at : List (List ℕ) → ℕ → Result ℕ ℕ
number_at words p = number_or (number_in (word_at words p)) p

-- a number, and what it makes
abbrev pub with_number : {A : Type 0} → Result ℕ ℕ → (ℕ → Result A ℕ) → Result A ℕ
with_number (Ok n) make = make n
with_number (Err p) make = Err p

-- a command of one word, or of a word and a module's number, or of a word, a module's number and an index; and how many words spell it
abbrev pub one_word_or : Option Command → Result (Command × ℕ) ℕ → Result (Command × ℕ) ℕ
one_word_or (Some c) others = Ok (c, 1)
one_word_or None others = others

abbrev pub longer_at : List (List ℕ) → ℕ → List ℕ → Result (Command × ℕ) ℕ
longer_at words p word =
    if takes_module word then with_number (number_at words (p + 1)) (λ k. Ok (module_command word k, 2))
    else if bytes_eq word (codes "imports") then with_number (number_at words (p + 1)) (λ k. with_number (number_at words (p + 2)) (λ i. Ok (Imports k i, 3)))
    else Err p

-- the command that begins with the word at p, and how many words spell it; or the index of the bad word
unfoldable pub command_at : List (List ℕ) → ℕ → Result (Command × ℕ) ℕ
command_at words p = one_word_or (plain_command (word_at words p)) (longer_at words p (word_at words p))

-- some commands before others
abbrev pub behind : List Command → Result (List Command) ℕ → Result (List Command) ℕ
behind cs (Ok ds) = Ok (cs ++ ds)
behind cs (Err p) = Err p

-- a command, and then the commands from the word behind it
abbrev pub and_then : Result (Command × ℕ) ℕ → (Command × ℕ → Result (List Command) ℕ) → Result (List Command) ℕ
and_then (Ok c) rest = behind (c.0 ∷ []) (rest c)
and_then (Err p) rest = Err p

-- at most n commands from the word at p on
abbrev pub commands_from : ℕ → List (List ℕ) → ℕ → Result (List Command) ℕ
commands_from zero words p = Ok []
commands_from (suc n) words p =
    if nat_lt p (length words) then and_then (command_at words p) (λ c. commands_from n words (p + c.1)) else Ok []

-- the commands that the words spell, or the index of the first bad word
unfoldable pub spelled : List (List ℕ) → Result (List Command) ℕ
spelled words = commands_from (length words) words 0
