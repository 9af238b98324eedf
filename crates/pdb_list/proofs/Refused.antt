-- What a call was refused for.
use Rattle.std.proofs.Common.{◌≡◌, ◌≢◌, true, Result, Err, refl}
use Rattle.pdb.specs.Source.{State}
use Rattle.pdb.specs.Error.{Error}
use Rattle.pdb.specs.Error.TheVariants.{IoError, OutOfMemory}
use Rattle.pdb.specs.Refusal.{Fails}
use Rattle.pdb_list.specs.Unfailed.{Unfailed}

-- one where no view failed
pub refused_for : {Y : Type 0} (io : Type 0) (e : Error) (read : Result Y Error) → (io → ⊥) → Fails io e read → e ≢ OutOfMemory → read ≡ Err e
refused_for io IoError read u f n = absurd (u f)
refused_for io OutOfMemory read u f n = absurd (n refl)
refused_for io e read u f n = f

-- one that reads no source
pub refused_is : {Y : Type 0} (e : Error) (read : Result Y Error) → Fails ⊥ e read → e ≢ OutOfMemory → read ≡ Err e
refused_is e read f n = refused_for ⊥ e read (λ h. h) f n

-- no view of a steady source fails
pub unfailed_steadily : (old new : State) → old.steady ≡ true → Unfailed old new
unfailed_steadily old new s m = let u = m.unsteady in absurd cc
