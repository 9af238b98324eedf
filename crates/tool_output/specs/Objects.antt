-- JSON values, one a line.
use Rattle.std.specs.Prelude.{◌≡◌, ℕ, List, [], ◌∷◌, ◌++◌, codes, Option, Some, None, Result, OnOk}
use Rattle.std.specs.Fmt.{decimal}
use Rattle.json.specs.Json.{Json, null, number, string}
use Rattle.json.specs.Print.{print}
use Rattle.json.specs.Token.{Token}
use Rattle.json.specs.Tree.{json_tokens}
use Rattle.json.specs.Written.{Written}
use Rattle.pdb.specs.Text.{lossy_text}

-- a value, and a line end
unfoldable pub json_line : Json → List ℕ
json_line value = print (json_tokens value) ++ codes "\n"

-- bytes as text, with U+FFFD for each maximal piece that is no character
abbrev pub text_value : List ℕ → Json
text_value bytes = string (lossy_text bytes)

-- the same of a name; `null` where it is empty
abbrev pub known_value : List ℕ → Json
known_value [] = null
known_value (b ∷ bytes) = text_value (b ∷ bytes)

-- a number in decimal digits
abbrev pub number_value : ℕ → Json
number_value n = number (decimal n)

-- the same; `null` where there is none
abbrev pub optional_value : Option ℕ → Json
optional_value None = null
optional_value (Some n) = number_value n

-- these tokens were written behind those before
abbrev pub Adds : {E : Type 0} → Result (Unit {0}) E → Written → Written → List Token → Type 0
Adds r old new ts = OnOk r ((new.before ≡ old.before) × (new.tokens ≡ old.tokens ++ ts))
