-- The names of streams: a part with the names, and behind it a map from their places to streams.
use Rattle.std.specs.Prelude.{ℕ, zero, suc, ◌+◌, ◌*◌, ◌/◌, List, [], ◌∷◌, ◌++◌, length, Result, Ok}
use Rattle.pdb_base.specs.declared.error.Error.{Error}
use Rattle.pdb_base.specs.Refusal.{◌>>=◌}
use Rattle.pdb_base.specs.Fields.{number, number_at, bytes_at, cstring_at}

-- a name, and the number of its stream
pub record Name : Type 0 where
  pub name : List ℕ
  pub stream : ℕ

-- the words of four bytes that are counted at p
unfoldable pub words_at : List ℕ → ℕ → Result (List ℕ) Error
words_at b p = do
  count ← number_at b p 4
  bytes_at b (p + 4) (4 * count)

-- the pairs of the map at p: a count, a number that isn't used, words twice, and then as many pairs of eight bytes as the count says
unfoldable pub pairs_at : List ℕ → ℕ → Result (List ℕ) Error
pairs_at b p = do
  count ← number_at b p 4
  unused ← number_at b (p + 4) 4
  present ← words_at b (p + 8)
  deleted ← words_at b (p + 12 + length present)
  bytes_at b (p + 16 + length present + length deleted) (8 * count)

-- the k-th name: it stands in the part at the place that the k-th pair begins with, and the low 16 bits of the pair's second number are its stream's
unfoldable pub name_at : List ℕ → List ℕ → ℕ → Result Name Error
name_at part pairs k = do
  name ← cstring_at part (number pairs (8 * k) 4)
  Ok (record { name = name; stream = number pairs (8 * k + 4) 2 })

-- the first n names, in order
abbrev pub names_up_to : List ℕ → List ℕ → ℕ → Result (List Name) Error
names_up_to part pairs zero = Ok []
names_up_to part pairs (suc n) = names_up_to part pairs n >>= λ before. name_at part pairs n >>= λ last. Ok (before ++ last ∷ [])

-- all names, of a part of so many bytes at a place; any fault refuses them all
unfoldable pub names_of : List ℕ → ℕ → ℕ → Result (List Name) Error
names_of b offset size = do
  part ← bytes_at b offset size
  pairs ← pairs_at b (offset + size)
  names_up_to part pairs (length pairs / 8)
