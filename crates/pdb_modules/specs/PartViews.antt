-- What contracts see of the parts of a line program.
use Rattle.std.specs.Prelude.{map}
use Rattle.pdb_modules.specs.declared.parts.Parts.{Parts}
use Rattle.pdb_modules.specs.KeptRows.{subsection_of}
use Rattle.pdb_modules.specs.ProgramParts.{PartsOf}

abbrev pub program_of_parts : Parts → PartsOf
program_of_parts parts = record { subsections = map subsection_of parts.lines.items; checksums = parts.checksums.now }
