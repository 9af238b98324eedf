use Rattle.std.proofs.Common.{◌≡◌, ◌++◌, map, take, drop}
use Rattle.pdb_text.specs.OneLine.{in_line}
use Rattle.pdb_text.proofs.one_line.blank_controls.Given as goal

abbrev pub invariant-loop-byte : goal.invariant-loop-byte
invariant-loop-byte l = l.bytes ≡ map in_line (take l.byte-index l.fn.bytes) ++ drop l.byte-index l.fn.bytes
