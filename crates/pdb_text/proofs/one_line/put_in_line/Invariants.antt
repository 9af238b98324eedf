use Rattle.std.proofs.Common.{◌≡◌, ◌++◌, map, take}
use Rattle.pdb_text.specs.OneLine.{in_line}
use Rattle.pdb_text.proofs.one_line.put_in_line.Given as goal

abbrev pub invariant-loop-byte : goal.invariant-loop-byte
invariant-loop-byte l = l.out.items ≡ l.fn.out.items ++ map in_line (take l.byte-index l.bytes)
