use Rattle.std.proofs.Common.{◌≡◌, drop, map}
use Rattle.pdb_modules.specs.ImportViews.{module_of}
use Rattle.pdb_c.specs.CrossRows.{import_row}
use Rattle.pdb_c.specs.Rooms.{over, put}
use Rattle.pdb_c.proofs.imports.put_modules.Given as goal

-- what was put, and what is left to put, are all
abbrev pub invariant-loop-place : goal.invariant-loop-place
invariant-loop-place l = put l.place (map module_of (drop l.place l.modules)) (map import_row l.records) ≡ over (map module_of l.modules) (map import_row l.fn.records)
