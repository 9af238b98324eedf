-- What contracts see of what is found by a stream that is read at the first question.
use Rattle.std.specs.Prelude.{ℕ, Bool, List, Option}

-- a stream, if there is one, and whether it was asked for a place
pub record AskedStream : Type 0 where
  pub stream : Option (List ℕ)
  pub asked : Bool
