-- Lines that list a module of a process.
use Rattle.std.specs.Prelude.{ℕ, ◌-◌, ◌%◌, List, codes, drop, length, max, nat_le, nat_lt, slice_range, ◌==◌, ◌||◌, ◌&&◌, Bool, if◌then◌else◌, Option, Some, None, option_and_then, option_map}
use Rattle.std.specs.Option.{option_or}
use Rattle.pdb_stacks.specs.DecimalTexts.{decimal_in}
use Rattle.pdb_stacks.specs.LineBytes.{kind_at, run_end, run_start}
use Rattle.pdb_stacks.specs.LineTexts.{behind_text, find_behind, stands}
use Rattle.pdb_stacks.specs.ProcessAddresses.{listed_address}
use Rattle.pdb_stacks.specs.declared.bytes.Kind.TheVariants.{Blank, Digit, FileName, LineEnd, Module, Word}
use Rattle.pdb_stacks.specs.declared.bytes.Span.{Span}
use Rattle.pdb_stacks.specs.declared.hex_numbers.Hex.{Hex}
use Rattle.pdb_stacks.specs.declared.module_lists.ListedModule.{ListedModule}
use Rattle.pdb_stacks.specs.declared.module_lists.ListedRange.{ListedRange}
use Rattle.pdb_stacks.specs.declared.module_lists.NamedStart.{NamedStart}

-- the name of the file of a path that goes up to an offset
abbrev pub file_name : List ℕ → ℕ → ℕ → Span
file_name line start end = record { start = max start (run_start FileName line end); end = end }

-- the load address of a module
abbrev pub is_load_address : ℕ → Bool
is_load_address n = n % 65536 == 0

-- ---- blanks or none, START, gap, END, blanks, name

-- a word up to an offset that is an address
abbrev pub address_to : List ℕ → ℕ → ℕ → Option Hex
address_to line at end = option_map (λ n. record { number = n; end = end }) (listed_address (slice_range line at end))

unfoldable pub address_at : List ℕ → ℕ → Option Hex
address_at line at = address_to line at (run_end Word line at)

-- a gap: blanks, or a dash with blanks or none around it
abbrev pub gap_from : List ℕ → ℕ → ℕ → Option ℕ
gap_from line at blanks = option_or (option_map (run_end Blank line) (behind_text line blanks (codes "-"))) (if nat_lt at blanks then Some blanks else None)

unfoldable pub gap_end : List ℕ → ℕ → Option ℕ
gap_end line at = gap_from line at (run_end Blank line at)

-- from 1 to 2^32
unfoldable pub size_of_module : ℕ → ℕ → Option ℕ
size_of_module start end = if is_load_address start && nat_lt start end && nat_le (end - start) 4294967296 then Some (end - start) else None

abbrev pub range_between : Hex → Hex → Option ListedRange
range_between s e = option_map (λ size. record { start = s.number; size = size; end = e.end }) (size_of_module s.number e.number)

abbrev pub range_behind : List ℕ → Hex → Option ListedRange
range_behind line s = option_and_then (λ at. option_and_then (range_between s) (address_at line at)) (gap_end line s.end)

unfoldable pub listed_range : List ℕ → Option ListedRange
listed_range line = option_and_then (range_behind line) (address_at line (run_end Blank line 0))

-- a path of Windows: behind `\\`, or a byte and `:\`
abbrev pub is_path : List ℕ → ℕ → Bool
is_path line at = stands line at (codes "\\\\") || stands (drop at line) 1 (codes ":\\")

-- the rest of the line is its path, but for blanks
abbrev pub path_name : List ℕ → ℕ → Span
path_name line at = file_name line at (run_start LineEnd line (length line))

-- a name with a blank or the line's end behind it
abbrev pub name_to : List ℕ → ℕ → ℕ → Option Span
name_to line at end = if nat_lt at end && (nat_le (length line) end || kind_at LineEnd line end) then Some (record { start = at; end = end }) else None

unfoldable pub plain_name : List ℕ → ℕ → Option Span
plain_name line at = name_to line at (run_end Module line at)

abbrev pub name_behind : List ℕ → ℕ → ℕ → Option Span
name_behind line at start = if start == at then None else if is_path line start then Some (path_name line start) else plain_name line start

unfoldable pub listed_name : List ℕ → ℕ → Option Span
listed_name line at = name_behind line at (run_end Blank line at)

abbrev pub in_range : List ℕ → ListedRange → Option ListedModule
in_range line r = option_map (λ name. record { start = r.start; size = r.size; name = name }) (listed_name line r.end)

unfoldable pub in_columns : List ℕ → Option ListedModule
in_columns line = option_and_then (in_range line) (listed_range line)

-- ---- .., module bytes, ` (`, START, `), size: `, digits, ` (result: `, ..

-- a number of 1 to 10 digits that isn't 0
abbrev pub positive : ℕ → Option ℕ
positive n = if n == 0 then None else Some n

abbrev pub size_to : List ℕ → ℕ → ℕ → Option ℕ
size_to line at end = if stands line end (codes " (result: ") then option_and_then positive (decimal_in (slice_range line at end)) else None

unfoldable pub size_at : List ℕ → ℕ → Option ℕ
size_at line at = size_to line at (run_end Digit line at)

-- the longest name before an offset
abbrev pub name_from : ℕ → ℕ → Option Span
name_from start end = if nat_lt start end then Some (record { start = start; end = end }) else None

unfoldable pub name_before : List ℕ → ℕ → Option Span
name_before line word = if stands line (word - 2) (codes " (") then name_from (run_start Module line (word - 2)) (word - 2) else None

abbrev pub named : List ℕ → ℕ → ℕ → Option NamedStart
named line word n = if is_load_address n then option_map (λ name. record { start = n; name = name }) (name_before line word) else None

-- the word before an offset is the start, and `NAME (` stands before it
abbrev pub start_from : List ℕ → ℕ → ℕ → Option NamedStart
start_from line at word = option_and_then (named line word) (listed_address (slice_range line word at))

unfoldable pub named_start : List ℕ → ℕ → Option NamedStart
named_start line at = start_from line at (run_start Word line at)

abbrev pub with_size : List ℕ → ℕ → NamedStart → Option ListedModule
with_size line at s = option_map (λ size. record { start = s.start; size = size; name = s.name }) (size_at line at)

-- behind the first `), size: `, which has nine bytes
abbrev pub with_result_at : List ℕ → ℕ → Option ListedModule
with_result_at line at = option_and_then (with_size line at) (named_start line (at - 9))

unfoldable pub with_result : List ℕ → Option ListedModule
with_result line = option_and_then (with_result_at line) (find_behind line (codes "), size: "))

-- ---- either

unfoldable pub listed_module : List ℕ → Option ListedModule
listed_module line = option_or (in_columns line) (with_result line)
