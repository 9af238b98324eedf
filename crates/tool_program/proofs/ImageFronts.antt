-- The first two bytes of a file say whether it is an image.
use Rattle.std.proofs.Common.{◌≡◌, ℕ, Bool, List, [], ◌∷◌, Result, Ok, ap, arith}
use Rattle.pdb.specs.Error.{Error}
use Rattle.pdb.specs.Error.TheVariants.{IoError, OutOfMemory, UnexpectedEof}
use Rattle.pdb.specs.Refusal.{Fails}
use Rattle.pdb_base.specs.Source.{viewed}
use Rattle.pdb_base.proofs.HeadLemmas.{one_ok, one_err}
use Rattle.pdb_image.specs.Headers.{is_image}

pub front_of : (file bytes : List ℕ) → viewed file (record { offset = 0; size = 2 } ∷ []) ≡ Ok bytes → is_image bytes ≡ is_image file
front_of [] bytes e = absurd (omega (arith, (one_ok [] 0 2 bytes e).0))
front_of (a ∷ []) bytes e = absurd (omega (arith, (one_ok (a ∷ []) 0 2 bytes e).0))
front_of (a ∷ b ∷ rest) bytes e = ap is_image (one_ok (a ∷ b ∷ rest) 0 2 bytes e).1

-- any other error isn't the file's
pub fails_still : (io : Type 0) (file : List ℕ) (e : Error) (r : Result Bool Error) → (e ≡ UnexpectedEof → ⊥) → Fails io e (viewed file (record { offset = 0; size = 2 } ∷ [])) → Fails io e r
fails_still io file IoError r other h = h
fails_still io file OutOfMemory r other h = tt
fails_still io file e r other h = absurd (other (one_err file 0 2 e h).1)
