-- Which lines of which source files a word asks for.
use Rattle.std.specs.Prelude.{ℕ, ◌+◌, ◌-◌, List, [], ◌∷◌, length, take, drop, map, slice_index_or, position, Bool, true, ◌&&◌, ◌||◌, ◌==◌, nat_le, if◌then◌else◌, Option, Some, None, Result, Ok, Err, option_map, option_and_then}
use Rattle.std.specs.List.{list_any}
use Rattle.std.specs.Option.{is_some, option_or}
use Rattle.std.specs.Str.{bytes_eq}
use Rattle.pdb_text.specs.Numbers.{long_number_in}
use Rattle.tool_arguments.specs.declared.mistakes.Wrong.{Wrong}
use Rattle.tool_arguments.specs.declared.mistakes.Wrong.TheVariants.{BadLines, BadSource}

-- ---- words

-- lines from a first to a last one
pub record Stretch : Type 0 where
  pub first : ℕ
  pub last : ℕ

abbrev pub up_to : ℕ → ℕ → Stretch
up_to first last = record { first = first; last = last }

abbrev pub is_dash : ℕ → Bool
is_dash b = b == 45

-- one line; or two with a dash between them, at an offset
abbrev pub stretch_by : List ℕ → Option ℕ → Option Stretch
stretch_by word None = option_map (λ n. up_to n n) (long_number_in word)
stretch_by word (Some at) = option_and_then (λ first. option_map (up_to first) (long_number_in (drop (at + 1) word))) (long_number_in (take at word))

unfoldable pub stretch_in : List ℕ → Option Stretch
stretch_in word = stretch_by word (position is_dash word)

-- one more than an offset, where there is one
abbrev pub further : Option ℕ → Option ℕ
further o = option_map (λ k. k + 1) o

-- where the last colon of a word stands
abbrev pub last_colon : List ℕ → Option ℕ
last_colon [] = None
last_colon (b ∷ word) = option_or (further (last_colon word)) (if b == 58 then Some 0 else None)

-- an offset, and the lines that a word names behind the byte there
abbrev pub lines_at : List ℕ → Option ℕ → Option (ℕ × Stretch)
lines_at word None = None
lines_at word (Some at) = option_map (λ lines. (at, lines)) (stretch_in (drop (at + 1) word))

-- a source file, and the lines of it that are asked for; all where none are named
pub record SourceOf : Type 0 where
  pub source : List ℕ
  pub lines : Option Stretch

abbrev pub source_by : List ℕ → Option (ℕ × Stretch) → SourceOf
source_by word None = record { source = word; lines = None }
source_by word (Some x) = record { source = take x.0 word; lines = Some x.1 }

abbrev pub source_in : List ℕ → SourceOf
source_in word = source_by word (lines_at word (last_colon word))

-- what stands before the last colon, where a number stands behind it
abbrev pub before_number_by : List ℕ → Option ℕ → Option (List ℕ)
before_number_by word None = None
before_number_by word (Some at) = option_map (λ n. take at word) (long_number_in (drop (at + 1) word))

abbrev pub before_number : List ℕ → Option (List ℕ)
before_number word = before_number_by word (last_colon word)

-- without `:COLUMN` behind `:LINE`
abbrev pub without_column_by : List ℕ → Option (List ℕ) → List ℕ
without_column_by word None = word
without_column_by word (Some before) = if is_some (before_number before) then before else word

abbrev pub without_column : List ℕ → List ℕ
without_column word = without_column_by word (before_number word)

-- of two lines the first isn't the higher one
abbrev pub is_in_order : Option Stretch → Bool
is_in_order None = true
is_in_order (Some s) = nat_le s.first s.last

-- wrong where it names no file, or two lines of which the first is the higher one
abbrev pub judged : SourceOf → Result SourceOf Wrong
judged s = if bytes_eq s.source [] then Err BadSource else if is_in_order s.lines then Ok s else Err BadLines

unfoldable pub source_of : List ℕ → Result SourceOf Wrong
source_of word = judged (source_in (without_column word))

-- ---- the files and lines that they ask for

-- `\` as `/`, and the letters A to Z as a to z
abbrev pub folded : ℕ → ℕ
folded b = if b == 92 then 47 else if nat_le 65 b && nat_le b 90 then b + 32 else b

abbrev pub folds : List ℕ → List ℕ
folds bytes = map folded bytes

-- nothing stands before an offset of a name, or it ends a folder's name
abbrev pub begins_part : List ℕ → ℕ → Bool
begins_part name k = k == 0 || folded (slice_index_or name (k - 1) 0) == 47

-- a name is this one, or ends in `/` and this one
unfoldable pub is_named : List ℕ → List ℕ → Bool
is_named source name = nat_le (length source) (length name) && begins_part name (length name - length source) && bytes_eq (folds (drop (length name - length source) name)) (folds source)

abbrev pub has_line : Option Stretch → ℕ → Bool
has_line None line = true
has_line (Some s) line = nat_le s.first line && nat_le line s.last

-- one of the words asks for a line of a file
abbrev pub asks_for : List SourceOf → List ℕ → ℕ → Bool
asks_for asked name line = list_any (λ s. has_line s.lines line && is_named s.source name) asked
