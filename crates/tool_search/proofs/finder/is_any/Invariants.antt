use Rattle.std.proofs.Common.{◌≡◌, drop, map}
use Rattle.std.specs.List.{list_any}
use Rattle.tool_arguments.specs.Operands.{word_of}
use Rattle.tool_arguments.specs.Wildcards.{matches}
use Rattle.tool_search.proofs.finder.is_any.Given as goal

-- a word matches if one of those from here on does
abbrev pub invariant-loop-word : goal.invariant-loop-word
invariant-loop-word l = record {
  told : list_any (λ word. matches word l.name) (map word_of l.words) ≡ list_any (λ word. matches word l.name) (map word_of (drop l.word-index l.words));
}
