-- What contracts see of the source files that words ask for.
use Rattle.std.specs.Prelude.{ℕ, option_map}
use Rattle.tool_arguments.specs.SourcesAsked.{SourceOf, Stretch}
use Rattle.tool_arguments.specs.declared.sources_asked.Stretch.{Stretch as Read}
use Rattle.tool_arguments.specs.declared.sources_asked.SourceAsked.{SourceAsked}

abbrev pub stretch_view : Read → Stretch
stretch_view s = record { first = s.first; last = s.last }

abbrev pub split_view : ℕ × Read → ℕ × Stretch
split_view x = (x.0, stretch_view x.1)

abbrev pub source_view : SourceAsked → SourceOf
source_view s = record { source = s.source.now; lines = option_map stretch_view s.lines }
