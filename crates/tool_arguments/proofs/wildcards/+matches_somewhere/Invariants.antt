use Rattle.std.proofs.Common.{length}
use Rattle.tool_arguments.proofs.wildcards.+matches_somewhere.Given as goal

abbrev pub decreases-matches_somewhere : goal.decreases-matches_somewhere
decreases-matches_somewhere l = length l.pattern.now
