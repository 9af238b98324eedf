-- The ends of lines that are kept.
use Rattle.std.specs.Prelude.{◌≡◌, ℕ, List, [], Option, Some, None}
use Rattle.std.specs.Option.{ForSome}
use Rattle.pdb_base.specs.declared.index.TypeIndex.{TypeIndex}
use Rattle.tool_types.specs.LineNames.{Names, call_end, typed_end}
use Rattle.tool_types.specs.declared.line_names.LineEnd.{LineEnd}

abbrev pub number_of_type : Option TypeIndex → ℕ
number_of_type None = 0
number_of_type (Some index) = index.0

-- what is kept at a slot is the text of its number
abbrev pub HasText : (ℕ → List ℕ) → Option LineEnd → Type 0
HasText text slot = ForSome slot (λ end. end.text.items ≡ text end.index)

-- what is kept at a slot is the end of a line with these names
abbrev pub IsEnd : Names → Option LineEnd → Type 0
IsEnd names = HasText (λ index. typed_end names (Some (record { 0 = index })))

-- what is kept at a slot is the end of a line of an inlined call
abbrev pub IsCallEnd : Names → Option LineEnd → Type 0
IsCallEnd names = HasText (call_end names)

-- the end at a slot, none where nothing is kept
abbrev pub end_in : Option LineEnd → List ℕ
end_in None = []
end_in (Some end) = end.text.items
