use Rattle.std.proofs.Common.{length}
use Rattle.tool_fields.proofs.flags.+put_more_flags.Given as goal

abbrev pub decreases-put_more_flags : goal.decreases-put_more_flags
decreases-put_more_flags l = length l.flags.now
