-- What contracts see of an iterator over line records.
use Rattle.std.specs.Prelude.{◌≡◌, ℕ, List, length, None}
use Rattle.pdb_base.specs.Left.{Left, ended}
use Rattle.pdb_modules.specs.declared.inlined_lines.InlineeLineIterator.{InlineeLineIterator}
use Rattle.pdb_modules.specs.declared.line_info.LineInfo.{LineInfo}
use Rattle.pdb_modules.specs.Inlined.{lines_left}
use Rattle.pdb_symbols.specs.AnnotationViews.{annotations_left, annotations_bytes}

-- the records that an iterator has left, and perhaps a fault after them; the bytes of its annotations; its steps so far
abbrev pub inlined_left : InlineeLineIterator → Left LineInfo
inlined_left it = lines_left it.lines.section it.lines.seen it.lines.pending (annotations_left it.annotations)

abbrev pub inlined_part : InlineeLineIterator → List ℕ
inlined_part it = annotations_bytes it.annotations

abbrev pub inlined_steps : InlineeLineIterator → ℕ
inlined_steps it = it.steps.count

-- how many annotations it hasn't read
abbrev pub inlined_ahead : InlineeLineIterator → ℕ
inlined_ahead it = length (annotations_left it.annotations).items

-- an iterator has ended: no annotation is left, and no record waits
abbrev pub InlinedEnded : InlineeLineIterator → Type 0
InlinedEnded it = (annotations_left it.annotations ≡ ended) × (it.lines.pending ≡ None)
