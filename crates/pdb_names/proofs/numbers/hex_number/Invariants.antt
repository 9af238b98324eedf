use Rattle.pdb_names.proofs.Hex.{SoFar}
use Rattle.pdb_names.proofs.numbers.hex_number.Given as goal

abbrev pub invariant-loop-letter : goal.invariant-loop-letter
invariant-loop-letter l = SoFar l.letters l.letter-index l.number
