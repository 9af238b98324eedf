-- A source of a reader whose bytes are known.
use Rattle.std.proofs.Common.{◌≡◌, ℕ, Bool, true, [], List, Option, Some, length, refl, subst, sym}
use Rattle.std.proofs.lemmas.Slice.Eq.{bytes_eq-Decides}
use Rattle.std.proofs.lemmas.Bool.Decides.{Decides-eqb}
use Rattle.pdb_base.specs.Source.{IsKnown}
use Rattle.pdb_file.specs.HeldBytes.{Seen, is_steady_of, knows, known_or_empty, reading, size_where_steady}
use Rattle.pdb_file.proofs.Files.{has_known}
use Rattle.pdb_file.proofs.NoneHeld.{none_held}

-- what a source is of which nothing was read
abbrev first : Bool → Option (List ℕ) → ℕ → List ℕ → Seen
first steady o size file = record { file = file; kept = record { size = size; runs = [] }; failures = 0; steady = is_steady_of size (size_where_steady steady o); known = knows o file }

knows_itself : (file : List ℕ) → knows (Some file) file ≡ true
unfolding knows
knows_itself file = (bytes_eq-Decides file file).1 refl

-- it is known, and its file is that of its reader
pub known_at_first : (steady : Bool) (o : Option (List ℕ)) (size : ℕ) (meant : List ℕ) (seen : Seen) (file : List ℕ) → seen ≡ first steady o size meant → meant ≡ known_or_empty o → o ≡ Some file → length file ≡ size → IsKnown (reading seen) × (seen.file ≡ file)
known_at_first steady o size meant seen file s m e many =
    let there : IsKnown (reading (first steady o size (known_or_empty o))) × (known_or_empty o ≡ file) = subst (λ o. IsKnown (reading (first steady o size (known_or_empty o))) × (known_or_empty o ≡ file)) (sym e)
    ((knows_itself file, has_known file (record { size = size; runs = [] }) (none_held file (record { size = size; runs = [] }) size refl many)), refl) in
    rw (s, m) there

-- and steady, where the reader is
pub steady_at_first : (steady : Bool) (o : Option (List ℕ)) (size : ℕ) (meant : List ℕ) (seen : Seen) (file : List ℕ) → seen ≡ first steady o size meant → steady ≡ true → o ≡ Some file → length file ≡ size → seen.steady ≡ true
steady_at_first steady o size meant seen file s is e many =
    let there : is_steady_of size (size_where_steady steady o) ≡ true = rw (is, e) ((Decides-eqb (length file) size).1 many) in
    rw s there
