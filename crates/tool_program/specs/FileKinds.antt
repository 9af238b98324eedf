-- What a file is, by its first bytes and its size.
use Rattle.std.specs.Prelude.{ℕ, ◌*◌, List, [], ◌∷◌, codes, length, nat_eq, nat_le, nat_lt, ◌==◌, ◌&&◌, Bool, if◌then◌else◌, Option, Some, None}
use Rattle.std.specs.List.{starts_with}
use Rattle.pdb.specs.Container.{magic, small_magic}
use Rattle.pdb.specs.Fields.{number}
use Rattle.tool_program.specs.declared.file_kind.FileKind.{FileKind}
use Rattle.tool_program.specs.declared.file_kind.FileKind.TheVariants.{Empty, Image, PortablePdb, OldPdb, Gzip, Short}

-- what the first bytes say
abbrev pub front_kind : List ℕ → Option FileKind
front_kind front =
    if starts_with nat_eq front (codes "MZ") then Some Image
    else if starts_with nat_eq front (codes "BSJB") then Some PortablePdb
    else if starts_with nat_eq front small_magic then Some OldPdb
    else if starts_with nat_eq front (31 ∷ 139 ∷ []) then Some Gzip
    else None

-- how many bytes a PDB has by its header: the size of a page times the number of pages
abbrev pub header_size : List ℕ → ℕ
header_size front = number front 32 4 * number front 40 4

abbrev pub has_header : List ℕ → Bool
has_header front = starts_with nat_eq front magic && nat_le 52 (length front)

unfoldable pub file_kind : List ℕ → ℕ → Option FileKind
file_kind front size =
    if size == 0 then Some Empty
    else if has_header front && nat_lt size (header_size front) then Some (Short (header_size front))
    else front_kind front
