use Rattle.std.proofs.Common.{◌≡◌, map, drop, string_bytes}
use Rattle.tool_arguments.specs.Tasks.{wants_help}
use Rattle.tool_arguments.specs.declared.options.Next.TheVariants.{Word}
use Rattle.tool_arguments.proofs.tasks.wants_help.Given as goal

-- whether one asks for help is whether one behind those so far does
abbrev pub invariant-loop-word : goal.invariant-loop-word
invariant-loop-word l = record {
  judged : wants_help Word (map string_bytes l.words) ≡ wants_help l.next (map string_bytes (drop l.word-index l.words));
}
