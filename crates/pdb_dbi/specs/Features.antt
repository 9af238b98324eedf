-- What the numbers behind the map of names say: whether stream 4 has ids.
use Rattle.std.specs.Prelude.{ℕ, ◌+◌, ◌*◌, List, [], ◌∷◌, ◌-◌, length, Bool, false, ◌||◌, ◌==◌, Result, Ok}
use Rattle.pdb_base.specs.declared.error.Error.{Error}
use Rattle.pdb_base.specs.Refusal.{◌>>=◌}
use Rattle.pdb_base.specs.Fields.{number, number_at, bytes_at}
use Rattle.pdb_dbi.specs.Names.{words_at}

-- all bytes from p on
unfoldable pub rest_at : List ℕ → ℕ → Result (List ℕ) Error
rest_at b p = bytes_at b p (length b - p)

-- what stands behind the map of names at p, which ends with its pairs
unfoldable pub behind_map : List ℕ → ℕ → Result (List ℕ) Error
behind_map b p = do
  count ← number_at b p 4
  unused ← number_at b (p + 4) 4
  present ← words_at b (p + 8)
  deleted ← words_at b (p + 12 + length present)
  pairs ← bytes_at b (p + 16 + length present + length deleted) (8 * count)
  rest_at b (p + 16 + length present + length deleted + 8 * count)

-- the numbers of the two formats that have ids
abbrev pub is_id_code : ℕ → Bool
is_id_code code = code == 20091201 || code == 20140508

-- whether one of them is among the numbers of four bytes, as many as are whole
abbrev pub has_id_code : List ℕ → Bool
has_id_code [] = false
has_id_code (a ∷ []) = false
has_id_code (a ∷ b ∷ []) = false
has_id_code (a ∷ b ∷ c ∷ []) = false
has_id_code (a ∷ b ∷ c ∷ d ∷ rest) = is_id_code (number (a ∷ b ∷ c ∷ d ∷ []) 0 4) || has_id_code rest

-- the same of an information stream whose names' part has so many bytes at a place
unfoldable pub has_ids_of : List ℕ → ℕ → ℕ → Result Bool Error
has_ids_of b offset size = do
  part ← bytes_at b offset size
  rest ← behind_map b (offset + size)
  Ok (has_id_code rest)
