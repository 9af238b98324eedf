-- The names of kinds of symbols in `cvinfo.h`.
use Rattle.std.specs.Prelude.{ℕ, ◌-◌, List, Option, None, nat_lt, map, if◌then◌else◌}
use Rattle.std.specs.List.{slice_get}
use Rattle.tool_fields.specs.declared.kind_names.TheConstants.{OLDEST_NAMES, SHORT_OFFSET_NAMES, SHORT_TYPE_NAMES, MIPS_NAMES, REFERENCE_NAMES, LENGTH_BYTE_NAMES, ZERO_ENDED_NAMES, LATEST_NAMES}

-- the name of a kind among those from a first one on
abbrev pub name_in : List (List ℕ) → ℕ → ℕ → Option (List ℕ)
name_in names first kind = slice_get names (kind - first)

-- the name of a kind, where it has one
unfoldable pub kind_name : ℕ → Option (List ℕ)
kind_name kind =
    if nat_lt kind 0x0001 then None
    else if nat_lt kind 0x0100 then name_in (map (λ s. s.now) OLDEST_NAMES) 0x0001 kind
    else if nat_lt kind 0x0200 then name_in (map (λ s. s.now) SHORT_OFFSET_NAMES) 0x0100 kind
    else if nat_lt kind 0x0300 then name_in (map (λ s. s.now) SHORT_TYPE_NAMES) 0x0200 kind
    else if nat_lt kind 0x0400 then name_in (map (λ s. s.now) MIPS_NAMES) 0x0300 kind
    else if nat_lt kind 0x1000 then name_in (map (λ s. s.now) REFERENCE_NAMES) 0x0400 kind
    else if nat_lt kind 0x1100 then name_in (map (λ s. s.now) LENGTH_BYTE_NAMES) 0x1000 kind
    else if nat_lt kind 0x1167 then name_in (map (λ s. s.now) ZERO_ENDED_NAMES) 0x1100 kind
    else name_in (map (λ s. s.now) LATEST_NAMES) 0x1167 kind
