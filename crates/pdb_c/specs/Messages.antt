-- The texts of the codes that calls return.
use Rattle.std.specs.Prelude.{ℕ, ◌-◌, List, Option, nat_lt, map, if◌then◌else◌}
use Rattle.std.specs.List.{slice_get}
use Rattle.pdb_c.specs.declared.message.TheConstants.{FILE_MESSAGES, CALL_MESSAGES}

-- the text of a code among those from a first one on
abbrev pub message_among : List (List ℕ) → ℕ → ℕ → Option (List ℕ)
message_among messages first code = slice_get messages (code - first)

-- the text of a code, where it has one
unfoldable pub message_of : ℕ → Option (List ℕ)
message_of code =
    if nat_lt code 30 then message_among (map (λ s. s.now) FILE_MESSAGES) 0 code
    else message_among (map (λ s. s.now) CALL_MESSAGES) 30 code
