use Rattle.std.proofs.Common.{◌≡◌, ◌++◌}
use Rattle.tool_symbols.specs.Depth.{blanks_of}
use Rattle.tool_symbols.proofs.depth.put_many_blanks.Given as goal

-- the blanks of as many depths were put
abbrev pub invariant-loop : goal.invariant-loop
invariant-loop l = l.out.items ≡ l.fn.out.items ++ blanks_of l.counter
