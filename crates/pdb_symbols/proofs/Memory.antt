-- A call that takes no memory answers as one that may.
use Rattle.std.proofs.Common.{Result, Ok, Err, inl}
use Rattle.pdb_base.specs.declared.error.Error.{Error}
use Rattle.pdb_base.specs.Refusal.{Answers}
use Rattle.pdb_symbols.specs.Memory.{Parses}

pub answers_parses : {X Y : Type 0} (wants : Type 0) (view : X → Y) (r : Result X Error) (read : Result Y Error) → Answers view r read → Parses wants view r read
answers_parses wants view (Ok x) read h = h
answers_parses wants view (Err e) read h = inl (h.0, h.1)
