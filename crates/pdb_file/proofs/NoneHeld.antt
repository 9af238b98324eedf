-- A file of which nothing is held.
use Rattle.std.proofs.Common.{◌≡◌, ℕ, List, [], length}
use Rattle.std.proofs.lemmas.List.Elements.{All-nil}
use Rattle.pdb_file.specs.HeldBytes.{Kept, IsOf, IsRunOf}

pub none_held : (file : List ℕ) (k : Kept) (n : ℕ) → k ≡ record { size = n; runs = [] } → length file ≡ n → IsOf file k
none_held file k n e same = rw e (record { size = same; agrees = All-nil (IsRunOf file) })
