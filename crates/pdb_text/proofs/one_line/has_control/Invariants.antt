use Rattle.std.proofs.Common.{◌≡◌, take}
use Rattle.std.specs.List.{list_any}
use Rattle.pdb_text.specs.OneLine.{is_control}
use Rattle.pdb_text.proofs.one_line.has_control.Given as goal

abbrev pub invariant-loop-byte : goal.invariant-loop-byte
invariant-loop-byte l = l.found ≡ list_any is_control (take l.byte-index l.bytes)
