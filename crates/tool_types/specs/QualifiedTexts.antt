-- The names of functions on lines.
use Rattle.std.specs.Prelude.{ℕ, List, ◌++◌, codes, Option, Some, None}
use Rattle.pdb.specs.Qualified.{Qualified}
use Rattle.pdb_text.specs.OneLine.{one_line}
use Rattle.tool_fields.specs.Values.{behind_blank}

-- a function's name on one line, behind a blank: with what stands before it, `??` where there is none
abbrev pub behind_scoped : Option (List ℕ) → List ℕ → List ℕ
behind_scoped None name = behind_blank name
behind_scoped (Some scope) name = codes " " ++ one_line scope ++ codes "::" ++ one_line name

abbrev pub behind_qualified : Option Qualified → List ℕ
behind_qualified None = codes " ??"
behind_qualified (Some name) = behind_scoped name.scope name.name
