use Rattle.std.proofs.Common.{◌≡◌, drop, map}
use Rattle.pdb_c.specs.SectionRows.{section_row}
use Rattle.pdb_c.specs.Rooms.{over, put}
use Rattle.pdb_c.proofs.sections.put_headers.Given as goal

-- what was put, and what is left to put, are all
abbrev pub invariant-loop-place : goal.invariant-loop-place
invariant-loop-place l = put l.place (map section_row (drop l.place l.headers)) l.records ≡ over (map section_row l.headers) l.fn.records
