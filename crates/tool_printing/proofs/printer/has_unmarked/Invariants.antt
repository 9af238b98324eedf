use Rattle.std.proofs.Common.{◌≡◌, drop}
use Rattle.tool_printing.specs.Printing.{has_bytes, unmarked}
use Rattle.tool_printing.proofs.printer.has_unmarked.Given as goal

-- only marks stand before the index
abbrev pub invariant-loop-byte : goal.invariant-loop-byte
invariant-loop-byte l = has_bytes (unmarked l.text) ≡ has_bytes (unmarked (drop l.byte-index l.text))
