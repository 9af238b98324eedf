-- The names of the streams of a file.
use Rattle.std.specs.Prelude.{ℕ, List, Result}
use Rattle.pdb.specs.Error.{Error}
use Rattle.pdb.specs.Refusal.{◌>>=◌}
use Rattle.pdb.specs.Answers.{information_in}
use Rattle.pdb.specs.Names.{Name, names_of}

-- the names of streams
unfoldable pub names_in : List ℕ → Result (List Name) Error
names_in file = information_in file >>= λ i. names_of i.bytes i.names_offset i.names_size
