-- Values that are read back from what is printed of them.
use Rattle.std.specs.Prelude.{◌≡◌, Some}
use Rattle.json.specs.Json.{Json, document}
use Rattle.json.specs.Print.{print}
use Rattle.json.specs.Tree.{json_tokens}

-- a JSON reader gives back the value that was printed
abbrev pub ReadsBack : Json → Type 0
ReadsBack value = document (print (json_tokens value)) ≡ Some value
