-- Where no view failed.
use Rattle.pdb.specs.Source.{State, MayFail}

-- from a state to another, IoError may not be the answer
abbrev pub Unfailed : State → State → Type 0
Unfailed old new = MayFail old new → ⊥
