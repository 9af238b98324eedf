-- What a module imports from other modules, and what it exports to them.
use Rattle.std.specs.Prelude.{ℕ, ◌+◌, ◌*◌, ◌/◌, ◌%◌, ◌^◌, ◌<◌, ◌==◌, nat_lt, if◌then◌else◌, List, [], ◌∷◌, length, map, get_or, Option, Some, None, Result, Ok, Err}
use Rattle.std.specs.List.{range_with_len}
use Rattle.pdb_base.specs.declared.error.Error.{Error}
use Rattle.pdb_base.specs.declared.error.Error.TheVariants.{InvalidStreamLength, NotACrossModuleRef, CrossModuleRefNotFound}
use Rattle.pdb_base.specs.declared.error.Part.TheVariants.{CrossScopeExports}
use Rattle.pdb_base.specs.Refusal.{◌>>=◌}
use Rattle.pdb_base.specs.Fields.{number, number_at, bytes_at}
use Rattle.pdb_base.specs.Left.{Left}
use Rattle.pdb_base.specs.Tiling.{Row, listing}
use Rattle.pdb_base.specs.Reading.{read_row}
use Rattle.pdb_modules.specs.Subsections.{all_or_fault}

-- ---- exports

-- export i of a part: the number that is local to the module, and the one that all modules know
abbrev pub export_in : List ℕ → ℕ → ℕ × ℕ
export_in part i = (number part (8 * i) 4, number part (8 * i + 4) 4)

-- the exports of a part, which are pairs of eight bytes
unfoldable pub exports_in : List ℕ → Result (List (ℕ × ℕ)) Error
exports_in part =
    if length part % 8 == 0 then Ok (map (export_in part) (range_with_len 0 (length part / 8)))
    else Err (InvalidStreamLength CrossScopeExports)

-- the global number of the first export of a local one
abbrev pub global_of : ℕ → List (ℕ × ℕ) → Option ℕ
global_of local [] = None
global_of local (x ∷ xs) = if x.0 == local then Some x.1 else global_of local xs

-- each local number is above those before it
abbrev pub Increases : List (ℕ × ℕ) → Type 0
Increases xs = (j k : ℕ) (d : ℕ × ℕ) → j < k → k < length xs → (get_or xs j d).0 < (get_or xs k d).0

-- ---- imports

-- what is imported from one module: the place of its name in the string table, and the bytes of the numbers, of four each
pub record ImportedModule : Type 0 where
  pub name : ℕ
  pub bytes : List ℕ

-- the module at p: a u32 name, a u32 count, and so many numbers
unfoldable pub imported_at : List ℕ → ℕ → Result ImportedModule Error
imported_at b p = do
  name ← number_at b p 4
  count ← number_at b (p + 4) 4
  bytes ← bytes_at b (p + 8) (4 * count)
  Ok (record { name = name; bytes = bytes })

abbrev pub imported_length : ℕ → ImportedModule → ℕ
imported_length p x = 8 + length x.bytes

abbrev pub imported : Row ImportedModule
imported = read_row imported_at imported_length

unfoldable pub imported_from : List ℕ → ℕ → Left ImportedModule
imported_from b p = listing imported b p

-- the modules of a part, or its fault alone
unfoldable pub imports_in : List ℕ → Result (List ImportedModule) Error
imports_in part = all_or_fault (imported_from part 0).items (imported_from part 0).fault

-- a reference to another module: the place of its name, and the number that is local to it
pub record Reference : Type 0 where
  pub name : ℕ
  pub local : ℕ

-- number i of a module, for the index n
abbrev pub number_in : ℕ → ImportedModule → ℕ → Result Reference Error
number_in n x i = if nat_lt i (length x.bytes / 4) then Ok (record { name = x.name; local = number x.bytes (4 * i) 4 }) else Err (CrossModuleRefNotFound n)

abbrev pub nothing : ImportedModule
nothing = record { name = 0; bytes = [] }

-- what the index n refers to: bits 20 to 30 tell the module's place, bits 0 to 19 the number's
unfoldable pub reference_of : ℕ → List ImportedModule → Result Reference Error
reference_of n xs =
    if nat_lt n (2 ^ 31) then Err (NotACrossModuleRef n)
    else if nat_lt (n / 2 ^ 20 % 2 ^ 11) (length xs) then number_in n (get_or xs (n / 2 ^ 20 % 2 ^ 11) nothing) (n % 2 ^ 20)
    else Err (CrossModuleRefNotFound n)
