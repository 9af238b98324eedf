-- The names of kinds of types in `cvinfo.h`.
use Rattle.std.specs.Prelude.{ℕ, List, Option, None, nat_lt, map, if◌then◌else◌}
use Rattle.tool_fields.specs.KindNames.{name_in}
use Rattle.tool_fields.specs.declared.type_kinds.TheConstants.{OLD_TYPE_NAMES, TYPE_NAMES, LIST_NAMES, TAG_NAMES, ID_NAMES}

-- the name of a kind of types, where it has one
unfoldable pub type_kind_name : ℕ → Option (List ℕ)
type_kind_name kind =
    if nat_lt kind 0x0001 then None
    else if nat_lt kind 0x1001 then name_in (map (λ s. s.now) OLD_TYPE_NAMES) 0x0001 kind
    else if nat_lt kind 0x1200 then name_in (map (λ s. s.now) TYPE_NAMES) 0x1001 kind
    else if nat_lt kind 0x1501 then name_in (map (λ s. s.now) LIST_NAMES) 0x1200 kind
    else if nat_lt kind 0x1601 then name_in (map (λ s. s.now) TAG_NAMES) 0x1501 kind
    else name_in (map (λ s. s.now) ID_NAMES) 0x1601 kind
