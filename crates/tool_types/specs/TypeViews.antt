-- What contracts see of the types of a file.
use Rattle.pdb_types.specs.FullTypes.{first_definition}
use Rattle.tool_types.specs.TypeLines as lines
use Rattle.tool_types.specs.declared.type_lines.Types.{Types}

abbrev pub types_of : Types → lines.Types
types_of t = record { items = t.items.now; first = first_definition t.definitions.now }
