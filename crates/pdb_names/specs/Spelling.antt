-- The name that a decorated name spells.
use Rattle.std.specs.Prelude.{ℕ, List, length, drop, ◌++◌, Bool, not, ◌&&◌, ◌||◌, Option, Some, None, option_map, nat_eq, nat_lt, nat_le, ◌==◌, if◌then◌else◌, codes}
use Rattle.std.specs.List.{list_all, starts_with}
use Rattle.pdb_names.specs.CNames.{c_name}
use Rattle.pdb_names.specs.MicrosoftNames.{microsoft_name}
use Rattle.pdb_names.specs.Pieces.{◌>>=◌, bounded}
use Rattle.pdb_names.specs.ItaniumNames.{itanium_name}

-- a byte that a decorated name may have
abbrev pub is_allowed : ℕ → Bool
is_allowed b = nat_le 0x20 b && not (b == 0x7f)

-- the name of bytes without a prefix: of Microsoft's C++, by the Itanium ABI, or on x86 of C
unfoldable pub ruled : List ℕ → Bool → Option (List ℕ)
ruled d x86 =
    if starts_with nat_eq d (codes "?") then microsoft_name (drop 1 d)
    else if starts_with nat_eq d (codes "_Z") then itanium_name (drop 2 d)
    else if x86 && starts_with nat_eq d (codes "__Z") then itanium_name (drop 3 d)
    else if x86 then c_name d
    else None

-- the slot of an import keeps its prefix
unfoldable pub prefixed : List ℕ → Bool → Option (List ℕ)
prefixed d x86 =
    if starts_with nat_eq d (codes "__imp_") then option_map (λ name. codes "__imp_" ++ name) (ruled (drop 6 d) x86)
    else ruled d x86

-- the name that a decorated name spells, where a rule answers it
unfoldable pub spelled : List ℕ → Bool → Option (List ℕ)
spelled d x86 = if nat_lt 4096 (length d) || not (list_all is_allowed d) then None else (prefixed d x86 >>= bounded)

-- what is put for a decorated name: the name that it spells, or its bytes as they are
abbrev pub text_of : List ℕ → Option (List ℕ) → List ℕ
text_of d (Some name) = name
text_of d None = d
