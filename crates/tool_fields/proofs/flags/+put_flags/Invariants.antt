use Rattle.std.proofs.Common.{length}
use Rattle.tool_fields.proofs.flags.+put_flags.Given as goal

abbrev pub decreases-put_flags : goal.decreases-put_flags
decreases-put_flags l = length l.flags.now
