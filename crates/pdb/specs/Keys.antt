-- The key under which a symbol server has a file.
use Rattle.std.specs.Prelude.{ℕ, ◌/◌, ◌%◌, List, [], ◌∷◌, ◌++◌, ◌==◌, flat_map, Some, Result, Ok, Err, true, if◌then◌else◌}
use Rattle.std.specs.Fmt.{digits, digit_glyph}
use Rattle.pdb_base.specs.declared.error.Error.{Error}
use Rattle.pdb_base.specs.Refusal.{◌>>=◌}
use Rattle.pdb_dbi.specs.Header.{header_in}
use Rattle.pdb_dbi.specs.declared.header.DBIHeader.{DBIHeader}
use Rattle.pdb_base.specs.Container.{opens}
use Rattle.pdb.specs.Answers.{information_in}

-- two hex digits, in upper case
abbrev pub byte_text : ℕ → List ℕ
byte_text b = digit_glyph true (b / 16) ∷ digit_glyph true (b % 16) ∷ []

-- the age that the header of the DBI stream has; another one where it is refused, or has 0
abbrev pub age_told : Result DBIHeader Error → ℕ → ℕ
age_told (Ok h) other = if h.age == 0 then other else h.age
age_told (Err e) other = other

-- piece: age_of_file
-- by the front of the DBI stream
abbrev pub age_of_file : List ℕ → ℕ → ℕ
age_of_file file other = age_told (header_in file (Some 1024)) other

-- end

-- a GUID in 32 digits, and an age
abbrev pub key_text : List ℕ → ℕ → List ℕ
key_text guid age = flat_map byte_text guid ++ digits 16 true age

-- piece: key_in
-- of an opened file
unfoldable pub key_in : List ℕ → Result (List ℕ) Error
key_in file = information_in file >>= λ i. Ok (key_text i.guid (age_of_file file i.age))

-- end

-- of a file; the refusal of its front, or of its information stream
unfoldable pub key_of_file : List ℕ → Result (List ℕ) Error
key_of_file file = opens file >>= λ opened. key_in file
