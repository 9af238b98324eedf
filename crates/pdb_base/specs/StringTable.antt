-- The string table: names that other tables refer to by their places.
use Rattle.std.specs.Prelude.{ℕ, ◌+◌, List, length, take, drop, Result, Ok, Err, nat_lt, ◌==◌, not, if◌then◌else◌}
use Rattle.pdb_base.specs.declared.error.Feature.TheVariants as feature
use Rattle.pdb_base.specs.declared.error.Error.{Error}
use Rattle.pdb_base.specs.declared.error.Error.TheVariants.{UnexpectedEof, UnimplementedFeature}
use Rattle.pdb_base.specs.Fields.{number}

-- the number with which a string table begins
abbrev pub signature : ℕ
signature = 0xeffeeffe

-- the names, which stand behind the signature, the number of the hash and their size
unfoldable pub names_of : List ℕ → Result (List ℕ) Error
names_of b =
    if nat_lt (length b) 12 then Err UnexpectedEof
    else (if not (number b 0 4 == signature) then Err (UnimplementedFeature feature.StringTable)
    else (if nat_lt (length b) (12 + number b 8 4) then Err UnexpectedEof
    else Ok (take (number b 8 4) (drop 12 b))))
