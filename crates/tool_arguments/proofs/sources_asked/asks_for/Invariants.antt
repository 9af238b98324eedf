use Rattle.std.proofs.Common.{◌≡◌, drop, map, ◌&&◌}
use Rattle.std.specs.List.{list_any}
use Rattle.tool_arguments.specs.SourcesAsked.{asks_for, has_line, is_named}
use Rattle.tool_arguments.specs.SourceViews.{source_view}
use Rattle.tool_arguments.proofs.sources_asked.asks_for.Given as goal

-- a word asks for it if one of those from here on does
abbrev pub invariant-loop-it : goal.invariant-loop-it
invariant-loop-it l = record {
  told : asks_for (map source_view l.asked) l.name l.line ≡ list_any (λ s. has_line s.lines l.line && is_named s.source l.name) (map source_view (drop l.it-index l.asked));
}
