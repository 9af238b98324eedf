-- What contracts see of a list of line records.
use Rattle.std.specs.Prelude.{ℕ, List, map}
use Rattle.pdb_base.specs.Left.{Left}
use Rattle.pdb_modules.specs.declared.line_info.LineInfo.{LineInfo}
use Rattle.pdb_modules.specs.declared.lines.LineIterator.{LineIterator}
use Rattle.pdb_modules.specs.KeptRows.{view_of}

abbrev pub lines_left : LineIterator → Left LineInfo
lines_left it = record { items = map (view_of it.is_own) it.rows.now; fault = it.fault }

-- the bytes that bound how many records there are
abbrev pub lines_part : LineIterator → List ℕ
lines_part it = it.part.now

abbrev pub lines_steps : LineIterator → ℕ
lines_steps it = it.steps.count
