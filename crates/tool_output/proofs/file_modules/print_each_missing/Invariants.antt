use Rattle.std.proofs.Common.{◌≡◌, take, flat_map}
use Rattle.tool_output.specs.ErrorObjects.{none_of}
use Rattle.tool_output.proofs.file_modules.print_each_missing.Given as goal

-- as many lines as there were indices so far
abbrev pub invariant-loop-k : goal.invariant-loop-k
invariant-loop-k g l = record {
  lines : l.lines.items ≡ flat_map (none_of l.fn.format) (take l.k-index l.indices);
}
