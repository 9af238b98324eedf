use Rattle.std.proofs.Common.{◌≡◌, take, flat_map}
use Rattle.tool_output.specs.ErrorObjects.{error_of}
use Rattle.tool_output.proofs.module_printing.print_each_refused.Given as goal

-- as many lines as there were indices so far
abbrev pub invariant-loop-k : goal.invariant-loop-k
invariant-loop-k g l = record {
  lines : l.lines.items ≡ flat_map (λ k. error_of l.fn.format k l.fn.e) (take l.k-index l.indices);
}
