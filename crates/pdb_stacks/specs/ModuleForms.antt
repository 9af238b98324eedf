-- What stands behind the name of a module where it is a reference.
use Rattle.std.specs.Prelude.{ℕ, ◌+◌, ◌==◌, List, codes, Bool, true, false, if◌then◌else◌, Option, Some, None, option_and_then, option_map}
use Rattle.std.specs.Option.{option_or}
use Rattle.pdb_stacks.specs.HexTexts.{hex_behind, offset_at}
use Rattle.pdb_stacks.specs.LineBytes.{run_end}
use Rattle.pdb_stacks.specs.LineTexts.{behind_text}
use Rattle.pdb_stacks.specs.SymbolMarks.{nearest}
use Rattle.pdb_stacks.specs.declared.bytes.Kind.TheVariants.{Blank, HexDigit}
use Rattle.pdb_stacks.specs.declared.forms.Form.{Form}
use Rattle.pdb_stacks.specs.declared.hex_numbers.Hex.{Hex}

-- ---- forms of which the number is relative to the module

-- a number up to a `)`
abbrev pub closed : List ℕ → Hex → Option Hex
closed line h = option_map (λ end. record { number = h.number; end = end }) (behind_text line h.end (codes ")"))

unfoldable pub closed_hex : List ℕ → ℕ → List ℕ → Option Hex
closed_hex line at text = option_and_then (closed line) (hex_behind line at text)

-- `(+0xHEX)` or ` (+0xHEX)`
unfoldable pub in_parentheses : List ℕ → ℕ → Option Hex
in_parentheses line at = option_or (closed_hex line at (codes "(+0x")) (closed_hex line at (codes " (+0x"))

-- ` + 0xHEX` or `@0xHEX`, where the name has a dot
unfoldable pub behind_dotted : List ℕ → ℕ → Bool → Option Hex
behind_dotted line at false = None
behind_dotted line at true = option_or (hex_behind line at (codes " + 0x")) (hex_behind line at (codes "@0x"))

-- 16 digits
abbrev pub behind_digits : List ℕ → ℕ → Option ℕ
behind_digits line digits = if run_end HexDigit line digits == digits + 16 then Some (run_end HexDigit line digits) else None

-- blanks, `0x` and 16 hex digits
abbrev pub behind_blanks : List ℕ → ℕ → ℕ → Option ℕ
behind_blanks line at start = if start == at then None else option_and_then (behind_digits line) (behind_text line start (codes "0x"))

unfoldable pub behind_address : List ℕ → ℕ → Option ℕ
behind_address line at = behind_blanks line at (run_end Blank line at)

-- these, and ` + HEX`
unfoldable pub behind_base : List ℕ → ℕ → Option Hex
behind_base line at = option_and_then (λ end. hex_behind line end (codes " + ")) (behind_address line at)

-- `!<BaseAddress>` and an offset
unfoldable pub behind_base_word : List ℕ → ℕ → Option Hex
behind_base_word line at = option_and_then (offset_at line) (behind_text line at (codes "!<BaseAddress>"))

unfoldable pub of_base : List ℕ → ℕ → Option Hex
of_base line at = option_or (behind_base line at) (behind_base_word line at)

unfoldable pub apart : List ℕ → ℕ → Option Hex
apart line at = option_or (in_parentheses line at) (of_base line at)

-- each of these forms; at most one fits but for `!<BaseAddress>`, which comes before a symbol of that name
unfoldable pub relative : List ℕ → ℕ → Bool → Option Hex
relative line at has_dot = option_or (behind_dotted line at has_dot) (apart line at)

-- ---- all forms

abbrev pub plain_form : Hex → Form
plain_form h = record { symbol = None; is_plain = true; hex = h }

abbrev pub other_form : Hex → Form
other_form h = record { symbol = None; is_plain = false; hex = h }

abbrev pub symbol_form : ℕ → ℕ → Hex → Form
symbol_form start mark h = record { symbol = Some (record { start = start; end = mark }); is_plain = false; hex = h }

-- the name of a symbol from `start` up to a mark behind it, at which an offset stands
abbrev pub symbol_to : List ℕ → ℕ → ℕ → Option Form
symbol_to line mark start = if mark == start then None else option_map (symbol_form start mark) (offset_at line mark)

-- `!`, the name of a symbol, and an offset
unfoldable pub of_symbol : List ℕ → ℕ → Option Form
of_symbol line at = option_and_then (λ start. symbol_to line (nearest line start) start) (behind_text line at (codes "!"))

-- `+0xHEX`, another form of a relative number, or one of a symbol
unfoldable pub form_at : List ℕ → ℕ → Bool → Option Form
form_at line at has_dot =
    option_or (option_map plain_form (hex_behind line at (codes "+0x")))
    (option_or (option_map other_form (relative line at has_dot)) (of_symbol line at))
