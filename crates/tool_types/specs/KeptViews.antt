-- What contracts see of the ends of lines that are kept.
use Rattle.std.specs.Prelude.{ℕ, List, None, get_or}
use Rattle.tool_types.specs.LineNames.{Names}
use Rattle.tool_types.specs.LineViews.{names_of_lines}
use Rattle.tool_types.specs.KeptEnds.{end_in}
use Rattle.tool_types.specs.declared.kept_ends.KeptEnds.{KeptEnds}

-- the end at a slot
abbrev pub kept_text : KeptEnds → ℕ → List ℕ
kept_text k n = end_in (get_or k.rows.items n None)

-- the end of a line of an inlined call at a slot
abbrev pub kept_call : KeptEnds → ℕ → List ℕ
kept_call k n = end_in (get_or k.calls.items n None)

-- by what the names at the ends are found
abbrev pub kept_names : KeptEnds → Names
kept_names k = names_of_lines k.names
