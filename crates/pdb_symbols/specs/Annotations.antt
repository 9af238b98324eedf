-- Annotations: a spelled opcode from 1 to 13, and its spelled operands.
use Rattle.std.specs.Prelude.{ℕ, ◌-◌, ◌/◌, ◌%◌, ◌==◌, Bool, true, false, List, nat_lt, if◌then◌else◌, Option, Some, None, Result, Ok, Err, option_map}
use Rattle.pdb_base.specs.declared.error.Error.{Error}
use Rattle.pdb_base.specs.declared.error.Error.TheVariants.{UnknownBinaryAnnotation}
use Rattle.pdb_base.specs.Refusal.{◌>>=◌}
use Rattle.pdb_base.specs.Left.{Left}
use Rattle.pdb_base.specs.Tiling.{Row, listing}
use Rattle.pdb_base.specs.Reading.{refusal}
use Rattle.pdb_symbols.specs.declared.annotations.BinaryAnnotation.{BinaryAnnotation}
use Rattle.pdb_symbols.specs.declared.annotations.BinaryAnnotation.TheVariants.{CodeOffset, ChangeCodeOffsetBase, ChangeCodeOffset, ChangeCodeLength, ChangeFile, ChangeLineOffset, ChangeLineEndDelta, ChangeRangeKind, ChangeColumnStart, ChangeColumnEndDelta, ChangeCodeOffsetAndLineOffset, ChangeCodeLengthAndCodeOffset, ChangeColumnEnd}
use Rattle.pdb_symbols.specs.declared.reading.Found.{Found}
use Rattle.pdb_symbols.specs.Spelling.{spelled_at, signed_of}

-- whether an annotation emits a line record
abbrev pub emits : BinaryAnnotation → Bool
emits (ChangeCodeOffset delta) = true
emits (ChangeCodeOffsetAndLineOffset delta lines) = true
emits (ChangeCodeLengthAndCodeOffset size delta) = true
emits a = false

-- the annotation of an opcode with one operand
abbrev pub with_operand : ℕ → ℕ → BinaryAnnotation
with_operand opcode n =
    if opcode == 1 then CodeOffset n
    else if opcode == 2 then ChangeCodeOffsetBase n
    else if opcode == 3 then ChangeCodeOffset n
    else if opcode == 4 then ChangeCodeLength n
    else if opcode == 5 then ChangeFile (record { 0 = n })
    else if opcode == 6 then ChangeLineOffset (signed_of n)
    else if opcode == 7 then ChangeLineEndDelta n
    else if opcode == 8 then ChangeRangeKind n
    else if opcode == 9 then ChangeColumnStart n
    else if opcode == 10 then ChangeColumnEndDelta (signed_of n)
    else if opcode == 11 then ChangeCodeOffsetAndLineOffset (n % 16) (signed_of (n / 16))
    else ChangeColumnEnd n

-- an annotation with one operand, or with two, that stand at p
abbrev pub one_operand : ℕ → List ℕ → ℕ → Result Found Error
one_operand opcode b p = spelled_at b p >>= λ n. Ok (record { annotation = Some (with_operand opcode n.value); end = n.end })

abbrev pub two_operands : List ℕ → ℕ → Result Found Error
two_operands b p = spelled_at b p >>= λ n. spelled_at b n.end >>= λ m. Ok (record { annotation = Some (ChangeCodeLengthAndCodeOffset n.value m.value); end = m.end })

-- what stands behind an opcode: 0 ends a list, and there is none above 13
unfoldable pub annotation_behind : ℕ → List ℕ → ℕ → Result Found Error
annotation_behind opcode b p =
    if opcode == 0 then Ok (record { annotation = None; end = p })
    else if nat_lt 13 opcode then Err (UnknownBinaryAnnotation opcode)
    else if opcode == 12 then two_operands b p
    else one_operand opcode b p

-- what stands at p: an annotation or the 0 that ends a list, and the place behind it
unfoldable pub annotation_at : List ℕ → ℕ → Result Found Error
annotation_at b p = spelled_at b p >>= λ opcode. annotation_behind opcode.value b opcode.end

-- the bytes that it takes, if it is an annotation; and the annotation
abbrev pub piece_of : ℕ → Result Found Error → Option ℕ
piece_of p (Ok found) = option_map (λ a. found.end - p) found.annotation
piece_of p (Err e) = None

abbrev pub item_of : Result Found Error → Option BinaryAnnotation
item_of (Ok found) = found.annotation
item_of (Err e) = None

-- the list of annotations, which is also whole where a 0 is spelled
abbrev pub annotations : Row BinaryAnnotation
annotations = record {
  piece = λ b p. piece_of p (annotation_at b p);
  item = λ b p k. item_of (annotation_at b p);
  fault = λ b p. refusal (annotation_at b p);
}

-- the annotations of these bytes
abbrev pub annotations_of : List ℕ → Left BinaryAnnotation
annotations_of b = listing annotations b 0
