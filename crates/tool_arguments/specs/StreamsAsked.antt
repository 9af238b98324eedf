-- Which stream of a file is asked for.
use Rattle.std.specs.Prelude.{ℕ, List, Option, Some, None}
use Rattle.pdb_text.specs.Numbers.{long_number_in}
use Rattle.tool_arguments.specs.declared.streams_asked.StreamAsked.{StreamAsked}
use Rattle.tool_arguments.specs.declared.streams_asked.StreamAsked.TheVariants as asked

pub data StreamOf : Type 0 where
  numbered : ℕ → StreamOf
  called : List ℕ → StreamOf

abbrev pub stream_view : StreamAsked → StreamOf
stream_view (asked.Number n) = numbered n
stream_view (asked.Name name) = called name.now

abbrev pub number_or_name : List ℕ → Option ℕ → StreamOf
number_or_name word None = called word
number_or_name word (Some n) = numbered n

-- one to ten digits are its number, any other word is its name
abbrev pub stream_of : List ℕ → StreamOf
stream_of word = number_or_name word (long_number_in word)
