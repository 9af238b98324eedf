-- JSON values of what may be empty.
use Rattle.std.proofs.Common.{◌≡◌, ℕ, ◌<◌, List, [], ◌∷◌, length, refl, arith}
use Rattle.json.specs.Json.{null}
use Rattle.tool_output.specs.Objects.{known_value, text_value}

pub known_none : (bytes : List ℕ) → length bytes ≡ 0 → known_value bytes ≡ null
known_none [] h = refl
known_none (b ∷ bytes) h = absurd (omega arith)

pub known_some : (bytes : List ℕ) → 0 < length bytes → known_value bytes ≡ text_value bytes
known_some [] h = absurd (omega arith)
known_some (b ∷ bytes) h = refl
