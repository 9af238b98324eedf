-- What a fault of the program says of the run that stopped.
use Rattle.std.proofs.Common.{◌≡◌, ℕ, ◌⊎◌, inl, inr, Result, Err, refl}
use Rattle.std.specs.Prelude.{IsErrOf, IsErrAnd}
use Rattle.pdb_list.specs.declared.engine.RunError.{RunError}
use Rattle.pdb_list.specs.declared.engine.RunError.TheVariants as run
use Rattle.pdb_list.specs.declared.report.Fault.{Fault}
use Rattle.pdb_list.specs.declared.report.Fault.TheVariants.{Read, Open, Memory, Write}
use Rattle.pdb_list.specs.Faults.{fault_of_run}
use Rattle.pdb.specs.Error.{Error}
use Rattle.pdb.specs.Refusal.{number_of}

pub only_stopped : (e : RunError) (f : Fault) → f ≡ fault_of_run e → (f ≡ Read) ⊎ (f ≡ Memory) → (e ≡ run.Read) ⊎ (e ≡ run.OutOfMemory)
only_stopped run.OutOfMemory f s h = inr refl
only_stopped run.Read f s h = inl refl
only_stopped run.Write f s (inl h) = absurd cc
only_stopped run.Write f s (inr h) = absurd cc
only_stopped (run.Open x) f s (inl h) = absurd cc
only_stopped (run.Open x) f s (inr h) = absurd cc

pub only_write : {T : Type 0} (e : RunError) (f : Fault) → f ≡ fault_of_run e → IsErrOf {T = T} (Err f) Write → e ≡ run.Write
only_write run.OutOfMemory f s h = absurd cc
only_write run.Read f s h = absurd cc
only_write run.Write f s h = refl
only_write (run.Open x) f s h = absurd cc

pub only_open : {T : Type 0} (e : RunError) (f : Fault) (n : ℕ) (r : Result T Error) → f ≡ fault_of_run e → IsErrOf {T = Unit {0}} (Err f) (Open n) → ((x : Error) → e ≡ run.Open x → r ≡ Err x) → IsErrAnd r (λ x. n ≡ number_of x)
only_open run.OutOfMemory f n r s h told = absurd cc
only_open run.Read f n r s h told = absurd cc
only_open run.Write f n r s h told = absurd cc
only_open (run.Open x) f n r s h told = rw (told x refl) cc
