use Rattle.std.proofs.lemmas.Str.{IsCharBoundary-after_ascii}
use Rattle.tool_arguments.proofs.option_names.value_part.Goals as goal

-- what stands behind `=` begins with a character
pub range_from-requires : goal.range_from-requires
range_from-requires c above = IsCharBoundary-after_ascii _ _ c.utf8.word c.in-Some.ensures.there.0 c.in-Some.ensures.there.1
