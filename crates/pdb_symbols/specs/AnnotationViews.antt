-- What contracts see of lists of annotations and their iterators.
use Rattle.std.specs.Prelude.{ℕ, ◌≤◌, List, length}
use Rattle.pdb_base.specs.Left.{Left}
use Rattle.pdb_base.specs.Tiling.{listing}
use Rattle.pdb_symbols.specs.declared.annotations.BinaryAnnotation.{BinaryAnnotation}
use Rattle.pdb_symbols.specs.declared.annotations.BinaryAnnotations.{BinaryAnnotations}
use Rattle.pdb_symbols.specs.declared.annotations.BinaryAnnotationsIter.{BinaryAnnotationsIter}
use Rattle.pdb_symbols.specs.Annotations.{annotations}

-- the bytes of a list of annotations
abbrev pub annotation_bytes : BinaryAnnotations → List ℕ
annotation_bytes a = a.bytes.now

-- the annotations that an iterator has left, and perhaps a fault after them; the bytes of its list; its steps so far
abbrev pub annotations_left : BinaryAnnotationsIter → Left BinaryAnnotation
annotations_left it = listing annotations it.bytes.now it.at

abbrev pub annotations_bytes : BinaryAnnotationsIter → List ℕ
annotations_bytes it = it.bytes.now

abbrev pub annotations_steps : BinaryAnnotationsIter → ℕ
annotations_steps it = it.steps.count

-- an iterator has ended: no byte is left
abbrev pub AnnotationsEnded : BinaryAnnotationsIter → Type 0
AnnotationsEnded it = length it.bytes.now ≤ it.at
