-- How many writes failed.
use Rattle.std.specs.Prelude.{ℕ, ◌+◌, Result, Ok, Err}

-- the count of failures after a call: one more where it failed, and else as before
abbrev pub counted : {X E : Type 0} → ℕ → Result X E → ℕ
counted n (Ok x) = n
counted n (Err e) = n + 1
