-- Addresses of a process.
use Rattle.std.specs.Prelude.{ℕ, ◌+◌, ◌-◌, ◌*◌, List, [], ◌∷◌, ◌++◌, codes, drop, find, get_or, length, nat_eq, nat_le, nat_lt, slice_get, slice_range, take, ◌==◌, ◌||◌, ◌&&◌, not, Bool, if◌then◌else◌, Option, Some, None, option_map, option_to_list}
use Rattle.std.specs.List.{ends_with, starts_with}
use Rattle.std.specs.Option.{option_or}
use Rattle.pdb_stacks.specs.HexTexts.{hex_in}
use Rattle.pdb_stacks.specs.LineBytes.{is_of, run_end, run_start}
use Rattle.pdb_stacks.specs.declared.bytes.Kind.TheVariants.{Blank, Word}
use Rattle.pdb_stacks.specs.declared.bytes.Span.{Span}
use Rattle.pdb_stacks.specs.declared.hex_numbers.SpelledNumber.{SpelledNumber}

-- ---- words that are addresses

-- a backtick (96) stands before the last eight digits, with a digit before it
abbrev pub has_backtick : List ℕ → Bool
has_backtick digits = nat_lt 9 (length digits) && (get_or digits (length digits - 9) 0 == 96)

abbrev pub digit_count : List ℕ → ℕ
digit_count digits = if has_backtick digits then length digits - 1 else length digits

-- a number of 32 bits behind another one; none where one has more
abbrev pub joined : Option ℕ → Option ℕ → Option ℕ
joined None low = None
joined (Some high) None = None
joined (Some high) (Some low) = if nat_lt high 4294967296 && nat_lt low 4294967296 then Some (high * 4294967296 + low) else None

-- the number of digits, without the backtick
unfoldable pub digits_number : List ℕ → Option ℕ
digits_number digits =
    if has_backtick digits then joined (hex_in (take (length digits - 9) digits)) (hex_in (drop (length digits - 8) digits))
    else hex_in digits

-- of so many digits at least, and 16 at most
unfoldable pub number_from : List ℕ → ℕ → Option ℕ
number_from digits least = if nat_le least (digit_count digits) && nat_le (digit_count digits) 16 then digits_number digits else None

-- `0x` and 6 to 16 hex digits, or 16 hex digits
unfoldable pub address_in : List ℕ → Option ℕ
address_in word = if starts_with nat_eq word (codes "0x") then number_from (drop 2 word) 6 else number_from word 16

abbrev pub short_address : List ℕ → Option ℕ
short_address word = if length word == 8 then hex_in word else None

-- in a line that lists a module, 8 hex digits are an address too
unfoldable pub listed_address : List ℕ → Option ℕ
listed_address word = option_or (short_address word) (address_in word)

-- ---- the address of a line

-- `=` stands before an offset, with blanks or none between
abbrev pub is_assigned : List ℕ → ℕ → Bool
is_assigned line at = ends_with nat_eq (take (run_start Blank line at) line) (codes "=")

-- the word at an offset
abbrev pub word_at : List ℕ → ℕ → Span
word_at line at = record { start = at; end = run_end Word line at }

-- the address that a word of a line is
unfoldable pub address_of : List ℕ → Span → Option SpelledNumber
address_of line w = if is_assigned line w.start then None else option_map (λ n. record { text = w; number = n }) (address_in (slice_range line w.start w.end))

-- the addresses of a line's words from an offset on; what stands before `free` is of a word that was read
unfoldable pub addresses_from : List ℕ → ℕ → ℕ → List ℕ → List SpelledNumber
addresses_from line free at [] = []
addresses_from line free at (b ∷ rest) =
    if nat_lt at free || not (is_of Word b) then addresses_from line free (at + 1) rest
    else option_to_list (address_of line (word_at line at)) ++ addresses_from line (run_end Word line at) (at + 1) rest

abbrev pub is_long : SpelledNumber → Bool
is_long a = nat_le 4294967296 a.number

-- the first of at least 2^32, or else the first
abbrev pub chosen : List SpelledNumber → Option SpelledNumber
chosen addresses = option_or (find is_long addresses) (slice_get addresses 0)

unfoldable pub process_address : List ℕ → Option SpelledNumber
process_address line = chosen (addresses_from line 0 0 line)
