-- What a call answers that may take memory.
use Rattle.std.specs.Prelude.{◌≡◌, ◌≢◌, Result, Ok, Err, ◌⊎◌}
use Rattle.pdb_base.specs.declared.error.Error.{Error}
use Rattle.pdb_base.specs.declared.error.Error.TheVariants.{OutOfMemory}

-- A call that takes memory only where wants holds answers what is read, seen by view, or its refusal.
abbrev pub Parses : {X Y : Type 0} → Type 0 → (X → Y) → Result X Error → Result Y Error → Type 0
Parses wants view (Ok x) read = read ≡ Ok (view x)
Parses wants view (Err e) read = ((read ≡ Err e) × (e ≢ OutOfMemory)) ⊎ (wants × (e ≡ OutOfMemory))
