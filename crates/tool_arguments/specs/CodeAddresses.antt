-- Addresses of code, as arguments and lines spell them.
use Rattle.std.specs.Prelude.{ℕ, ◌+◌, ◌-◌, ◌*◌, List, length, take, drop, get_or, codes, Bool, ◌&&◌, ◌||◌, ◌==◌, nat_lt, nat_le, if◌then◌else◌, Option, Some, None, option_and_then, option_map}
use Rattle.std.specs.Char.{is_ascii_hexdigit, is_ascii_whitespace}
use Rattle.std.specs.List.{list_all, position, prefix_len, suffix_len}
use Rattle.std.specs.Str.{bytes_eq}
use Rattle.std.specs.Str.Parse.{digits_value}
use Rattle.tool_arguments.specs.declared.code_address.CodeAddress.{CodeAddress}
use Rattle.tool_arguments.specs.declared.code_address.CodeAddress.TheVariants.{Rva, Place, Nowhere}
use Rattle.tool_arguments.specs.declared.code_address.SpelledAddress.{SpelledAddress}
use Rattle.tool_arguments.specs.declared.code_address.SpelledAddress.TheVariants.{Number, Place as spelled_place}

-- ---- numbers

-- 1 to 16 hex digits, and nothing else
abbrev pub is_hex : List ℕ → Bool
is_hex word = nat_lt 0 (length word) && nat_le (length word) 16 && list_all is_ascii_hexdigit word

-- the number below 2^64 that hex digits write
unfoldable pub hex_in : List ℕ → Option ℕ
hex_in word = if is_hex word && nat_lt (digits_value 16 word) 18446744073709551616 then Some (digits_value 16 word) else None

-- ---- how addresses are spelled

-- 0x or 0X stands in front
abbrev pub has_prefix : List ℕ → Bool
has_prefix word = bytes_eq (take 2 word) (codes "0x") || bytes_eq (take 2 word) (codes "0X")

-- a number of 32 bits behind another one; none where one has more
abbrev pub joined : Option ℕ → Option ℕ → Option ℕ
joined None low = None
joined (Some high) None = None
joined (Some high) (Some low) = if nat_lt high 4294967296 && nat_lt low 4294967296 then Some (high * 4294967296 + low) else None

-- a backtick stands before the last eight digits, as debuggers write addresses
abbrev pub has_backtick : List ℕ → Bool
has_backtick word = nat_lt 9 (length word) && (get_or word (length word - 9) 0 == 96)

abbrev pub has_suffix : List ℕ → Bool
has_suffix word = nat_lt 0 (length word) && (get_or word (length word - 1) 0 == 104)

-- HEX, 0xHEX, 0XHEX, HEXh, or HEX with a backtick before its last eight digits
unfoldable pub address_number : List ℕ → Option ℕ
address_number word =
    if has_prefix word then hex_in (drop 2 word)
    else if has_backtick word then joined (hex_in (take (length word - 9) word)) (hex_in (drop (length word - 8) word))
    else if has_suffix word then hex_in (take (length word - 1) word)
    else hex_in word

-- a section and an offset
abbrev pub place_of : ℕ → ℕ → Option SpelledAddress
place_of section offset = if nat_lt section 65536 && nat_lt offset 4294967296 then Some (spelled_place (record { section = section; offset = offset })) else None

abbrev pub place_in : List ℕ → List ℕ → Option SpelledAddress
place_in section offset = option_and_then (λ s. option_and_then (place_of s) (hex_in offset)) (hex_in section)

abbrev pub is_colon : ℕ → Bool
is_colon b = b == 58

-- by the offset of the first colon
abbrev pub spelled_by : List ℕ → Option ℕ → Option SpelledAddress
spelled_by word None = option_map Number (address_number word)
spelled_by word (Some at) = place_in (take at word) (drop (at + 1) word)

-- a number, or a section and an offset with a colon between; none where the word is neither
unfoldable pub spelled_in : List ℕ → Option SpelledAddress
spelled_in word = spelled_by word (position is_colon word)

-- ---- relative to the load address of the image

-- below the base an address is relative where it is below the size of the image, which is 0 where the base isn't its own
abbrev pub below_base : ℕ → ℕ → CodeAddress
below_base size n = if nat_lt n size then Rva n else Nowhere

-- 2^32 or more above the base an address is nowhere; without a base it is below 2^32
abbrev pub relative : Option ℕ → ℕ → ℕ → Option CodeAddress
relative None size n = if nat_lt n 4294967296 then Some (Rva n) else None
relative (Some base) size n =
    if nat_lt n base then Some (below_base size n)
    else if nat_lt (n - base) 4294967296 then Some (Rva (n - base))
    else Some Nowhere

abbrev pub code_address : Option ℕ → ℕ → SpelledAddress → Option CodeAddress
code_address base size (Number n) = relative base size n
code_address base size (spelled_place p) = Some (Place p)

-- ---- lines

-- bytes without the blanks at both ends
abbrev pub without_blanks_before : List ℕ → List ℕ
without_blanks_before line = drop (prefix_len is_ascii_whitespace line) line

abbrev pub without_blanks_behind : List ℕ → List ℕ
without_blanks_behind line = take (length line - suffix_len is_ascii_whitespace line) line

abbrev pub without_blanks : List ℕ → List ℕ
without_blanks line = without_blanks_behind (without_blanks_before line)
