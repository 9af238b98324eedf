-- Words of private functions: a table that is made at the second question.
use Rattle.std.specs.Prelude.{Bool, true, false, Option, Some, None}
use Rattle.pdb_places.specs.declared.from_second.FromSecond.{FromSecond}
use Rattle.pdb_places.specs.declared.from_second.FromSecond.TheVariants.{Asked, Made, Unasked}

-- whether there was a question
abbrev pub was_asked : {T : Type 0} → FromSecond T → Bool
was_asked Unasked = false
was_asked Asked = true
was_asked (Made t) = true

-- whether the next question wants the table
abbrev pub is_wanted : {T : Type 0} → FromSecond T → Bool
is_wanted Unasked = false
is_wanted Asked = true
is_wanted (Made t) = false

-- behind a question
abbrev pub behind_question : {T : Type 0} → FromSecond T → FromSecond T
behind_question Unasked = Asked
behind_question Asked = Asked
behind_question (Made t) = Made t

-- the table, where it was made
abbrev pub made_of : {T : Type 0} → FromSecond T → Option T
made_of Unasked = None
made_of Asked = None
made_of (Made t) = Some t
