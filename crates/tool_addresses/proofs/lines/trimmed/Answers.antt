use Rattle.std.proofs.Common.{refl}
use Rattle.std.proofs.lemmas.Str.Ascii.{trim_ascii_is}
use Rattle.tool_arguments.specs.CodeAddresses.{without_blanks_before}
use Rattle.tool_addresses.proofs.lines.trimmed.Goals as goal

pub returns : goal.returns
returns c = trim_ascii_is c.args.line.now c.trim_ascii.result.now (without_blanks_before c.args.line.now) refl c.trim_ascii.ensures.value
