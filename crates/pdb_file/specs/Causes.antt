-- Why a file couldn't be read whole.
use Rattle.std.specs.Prelude.{◌≡◌, ℕ, ◌+◌, ◌<◌, ◌≤◌, ◌⊎◌, List, length, Option, Result, Ok, Err}
use Rattle.std.specs.Io.KnownBytes.{Consumes}
use Rattle.pdb_file.specs.declared.reading.FetchError.{FetchError}
use Rattle.pdb_file.specs.declared.reading.FetchError.TheVariants.{Read, Memory}

-- how many reads of a reader failed behind a read, if n failed before it
abbrev pub failures_after : {X E : Type 0} → ℕ → Result X E → ℕ
failures_after n (Ok x) = n
failures_after n (Err e) = n + 1

-- how many failed behind a read into memory that may run out: a lack of memory is no failure of the reader
abbrev pub failures_behind : {X : Type 0} → ℕ → Result X FetchError → ℕ
failures_behind n (Ok x) = n
failures_behind n (Err Read) = n + 1
failures_behind n (Err Memory) = n

-- a reader gave at most so many bytes
abbrev pub GaveAtMost : ℕ → Option (List ℕ) → Option (List ℕ) → Type 0
GaveAtMost most old new = (bytes : List ℕ) × Consumes old new bytes × (length bytes ≤ most)

-- it gave more
abbrev pub GaveMore : ℕ → Option (List ℕ) → Option (List ℕ) → Type 0
GaveMore most old new = (bytes : List ℕ) × Consumes old new bytes × (most < length bytes)

-- why all bytes of a reader, of at most so many, aren't there: Memory where memory ran out, before which no read failed and the
-- reader gave no more; Read where one read failed, or where none did and the reader gave more
abbrev pub IsCause : ℕ → Option (List ℕ) → Option (List ℕ) → ℕ → ℕ → FetchError → Type 0
IsCause most old new before behind Read = ((behind ≡ before + 1) × GaveAtMost most old new) ⊎ ((behind ≡ before) × GaveMore most old new)
IsCause most old new before behind Memory = (behind ≡ before) × GaveAtMost most old new
