-- How far each annotation moves the code offset and the line.
use Rattle.std.specs.Prelude.{ℕ}
use Rattle.std.specs.Int.{w32, cast_unsigned}
use Rattle.pdb_symbols.specs.declared.annotations.BinaryAnnotation.{BinaryAnnotation}
use Rattle.pdb_symbols.specs.declared.annotations.BinaryAnnotation.TheVariants.{ChangeCodeOffset, ChangeCodeLength, ChangeLineOffset, ChangeCodeOffsetAndLineOffset, ChangeCodeLengthAndCodeOffset}

abbrev pub adds_offset : BinaryAnnotation → ℕ
adds_offset (ChangeCodeOffset delta) = delta
adds_offset (ChangeCodeLength size) = size
adds_offset (ChangeCodeOffsetAndLineOffset delta lines) = delta
adds_offset (ChangeCodeLengthAndCodeOffset size delta) = delta
adds_offset a = 0

-- signed deltas count modulo 2^32
abbrev pub adds_line : BinaryAnnotation → ℕ
adds_line (ChangeLineOffset lines) = cast_unsigned w32 lines
adds_line (ChangeCodeOffsetAndLineOffset delta lines) = cast_unsigned w32 lines
adds_line a = 0
