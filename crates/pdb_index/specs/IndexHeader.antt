-- The header of an index, and which bytes open as one.
use Rattle.std.specs.Prelude.{ℕ, ◌/◌, ◌%◌, List, length, take, drop, not, ◌||◌, Option, Some, None, nat_eq, nat_lt, ◌==◌, if◌then◌else◌, codes}
use Rattle.std.specs.List.{starts_with}
use Rattle.pdb_base.specs.Fields.{number}
use Rattle.pdb_index.specs.declared.error.OpenError.{OpenError}
use Rattle.pdb_index.specs.declared.error.OpenError.TheVariants.{NotAnIndex, Version, Length}
use Rattle.pdb_index.specs.declared.header.Header.{Header}
use Rattle.pdb_index.specs.declared.header.Key.{Key}
use Rattle.pdb_index.specs.IndexLayout.{end_of, has_narrow_fields, layout_of}

-- the key, where bit 0 of the flags is set
abbrev pub key_of : List ℕ → Option Key
key_of b = if number b 12 4 % 2 == 0 then None else Some (record { guid = take 16 (drop 16 b); age = number b 32 4 })

-- the fields of the header
abbrev pub header_of : List ℕ → Header
header_of b =
    record {
      key = key_of b;
      has_address_map = number b 12 4 / 2 % 2 == 1;
      machine = number b 36 2;
      segments = number b 40 4;
      sections = number b 44 4;
      runs = number b 48 4;
      nodes = number b 52 4;
      functions = number b 56 4;
      files = number b 60 4;
      name_bytes = number b 64 4;
      deepest = number b 68 4;
      pdb_size = number b 72 8;
    }

-- why bytes don't open as an index
abbrev pub error_of : List ℕ → Option OpenError
error_of b =
    if nat_lt (length b) 96 || not (starts_with nat_eq b (codes "pdbindex")) then Some NotAnIndex
    else (if not (number b 8 4 == 1) then Some Version
    else (if not (has_narrow_fields (layout_of b)) || not (end_of (layout_of b).names == length b) then Some Length
    else None))
