use Rattle.std.proofs.Common.{◌≡◌, map, take}
use Rattle.pdb_modules.specs.KeptRows.{subsection_of}
use Rattle.pdb_modules.specs.LineProgram.{listed_subsections}
use Rattle.pdb_modules.proofs.line_places.listed_parts.Given as goal

-- the subsections so far are listed
abbrev pub invariant-loop-part : goal.invariant-loop-part
invariant-loop-part l = listed_subsections l.listed.items ≡ map subsection_of (take l.part-index l.parts)
