-- What a call that reads no source was refused for.
use Rattle.std.proofs.Common.{◌≡◌, ◌≢◌, Result, Err, refl}
use Rattle.pdb.specs.Error.{Error}
use Rattle.pdb.specs.Error.TheVariants.{IoError, OutOfMemory}
use Rattle.pdb.specs.Refusal.{Fails}

pub refused_is : {Y : Type 0} (e : Error) (read : Result Y Error) → Fails ⊥ e read → e ≢ OutOfMemory → read ≡ Err e
refused_is IoError read f n = absurd f
refused_is OutOfMemory read f n = absurd (n refl)
refused_is e read f n = f

-- what a call was refused for that is neither want of memory nor a failed source
pub refused_as : {Y : Type 0} (io : Type 0) (e : Error) (read : Result Y Error) → Fails io e read → e ≢ OutOfMemory → e ≢ IoError → read ≡ Err e
refused_as io IoError read f n m = absurd (m refl)
refused_as io OutOfMemory read f n m = absurd (n refl)
refused_as io e read f n m = f
