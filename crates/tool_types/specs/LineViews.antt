-- What contracts see of the names at the ends of lines.
use Rattle.std.specs.Prelude.{option_and_then}
use Rattle.pdb_resolve.specs.CallViews.{names_of_calls}
use Rattle.pdb_resolve.specs.ImportTables.{ids_by}
use Rattle.pdb_types.specs.FullTypes.{first_definition}
use Rattle.pdb_types.specs.TypeTexts.{shown_name}
use Rattle.tool_types.specs.LineNames.{Names, type_of_function}
use Rattle.tool_types.specs.declared.line_names.LineNames.{LineNames}

abbrev pub names_of_lines : LineNames → Names
names_of_lines n = record {
  called = names_of_calls n.calls;
  called_type = λ id. option_and_then (type_of_function n.ids.now) (ids_by n.global.now id);
  function_type = type_of_function n.ids.now;
  type_name = shown_name n.types.now (first_definition n.definitions.now);
}
