-- What is put over a room of the caller's.
use Rattle.std.specs.Prelude.{ℕ, List, [], ◌∷◌, ◌++◌, take, drop}

-- xs over a room from its start on, as far as the room reaches
abbrev pub over : {A : Type 0} → List A → List A → List A
over [] room = room
over (x ∷ xs) [] = []
over (x ∷ xs) (y ∷ room) = x ∷ over xs room

-- xs over a room from place n on, as far as the room reaches
abbrev pub put : {A : Type 0} → ℕ → List A → List A → List A
put n xs room = take n room ++ over xs (drop n room)
