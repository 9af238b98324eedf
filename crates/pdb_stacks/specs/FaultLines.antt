-- Lines of Windows' reports: the module that failed, and the offset in it.
use Rattle.std.specs.Prelude.{ℕ, List, codes, nat_le, if◌then◌else◌, Option, Some, None, option_and_then, option_map}
use Rattle.pdb_stacks.specs.HexTexts.{hex_at}
use Rattle.pdb_stacks.specs.LineBytes.{run_end, run_start}
use Rattle.pdb_stacks.specs.LineTexts.{find_label, past_text}
use Rattle.pdb_stacks.specs.ModuleLists.{file_name}
use Rattle.pdb_stacks.specs.declared.bytes.Kind.TheVariants.{Blank, Path}
use Rattle.pdb_stacks.specs.declared.bytes.Span.{Span}
use Rattle.pdb_stacks.specs.declared.hex_numbers.Hex.{Hex}
use Rattle.pdb_stacks.specs.declared.hex_numbers.SpelledNumber.{SpelledNumber}

-- a path up to a comma, a control or the line's end, without blanks at its end
abbrev pub path_end : List ℕ → ℕ → ℕ
path_end line start = run_start Blank line (run_end Path line start)

abbrev pub some_bytes : Span → Option Span
some_bytes s = if nat_le s.end s.start then None else Some s

-- its file name
abbrev pub name_of_path : List ℕ → ℕ → Option Span
name_of_path line start = some_bytes (file_name line start (path_end line start))

abbrev pub name_behind_label : List ℕ → ℕ → Option Span
name_behind_label line label = name_of_path line (run_end Blank line label)

unfoldable pub faulting_module : List ℕ → Option Span
faulting_module line = option_and_then (name_behind_label line) (find_label line (codes "Faulting module name:") (codes "Fault Module Name:"))

abbrev pub number_from : ℕ → Hex → SpelledNumber
number_from start h = record { text = record { start = start; end = h.end }; number = h.number }

-- a hex number, perhaps behind `0x`
abbrev pub number_at : List ℕ → ℕ → Option SpelledNumber
number_at line start = option_map (number_from start) (hex_at line (past_text line start (codes "0x")))

abbrev pub number_behind_label : List ℕ → ℕ → Option SpelledNumber
number_behind_label line label = number_at line (run_end Blank line label)

unfoldable pub fault_offset : List ℕ → Option SpelledNumber
fault_offset line = option_and_then (number_behind_label line) (find_label line (codes "Fault offset:") (codes "Exception Offset:"))
