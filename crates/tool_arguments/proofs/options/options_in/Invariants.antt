use Rattle.std.proofs.Common.{◌≡◌, ◌+◌, map, drop, string_bytes}
use Rattle.tool_arguments.specs.Options.{nothing_given, options_by}
use Rattle.tool_arguments.proofs.options.options_in.Given as goal

-- what all arguments say is what the others say behind those so far
abbrev pub invariant-loop-index : goal.invariant-loop-index
invariant-loop-index l = record {
  judged : options_by l.command nothing_given (map string_bytes l.words) l.argument ≡ options_by l.command l.given (map string_bytes (drop l.index l.words)) (l.argument + l.index);
}
