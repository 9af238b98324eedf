-- All bytes of a file of a known size.
use Rattle.std.proofs.Common.{◌≡◌, ℕ, List, [], ◌∷◌, length, take, drop, Ok, ◌∙◌, arith}
use Rattle.std.proofs.lemmas.List.{take_all}
use Rattle.pdb.specs.Error.{Error}
use Rattle.pdb.specs.Error.TheVariants.{IoError, OutOfMemory}
use Rattle.pdb.specs.Refusal.{Fails}
use Rattle.pdb_base.specs.Source.{viewed}
use Rattle.pdb_base.proofs.HeadLemmas.{one_ok, one_err}
use Rattle.tool_output.specs.Stops.{StopsComposing, stop_of_opening}

all_taken : (file : List ℕ) (n : ℕ) → length file ≡ n → take n (drop 0 file) ≡ file
all_taken file n same = take_all n file (omega (arith, same))

-- a view of all of them gives them
pub whole_is : (file bytes : List ℕ) (n : ℕ) → length file ≡ n → viewed file (record { offset = 0; size = n } ∷ []) ≡ Ok bytes → bytes ≡ file
whole_is file bytes n same e = (one_ok file 0 n bytes e).1 ∙ all_taken file n same

-- and doesn't meet the end of the file
pub whole_stops : (io : Type 0) (file : List ℕ) (n : ℕ) (e : Error) → length file ≡ n → Fails io e (viewed file (record { offset = 0; size = n } ∷ [])) → StopsComposing io (stop_of_opening e)
whole_stops io file n IoError same h = h
whole_stops io file n OutOfMemory same h = tt
whole_stops io file n e same h = absurd (omega (arith, same, (one_err file 0 n e h).0))
