use Rattle.std.proofs.Common.{◌≡◌, true}
use Rattle.pdb.specs.Source.{Continues}
use Rattle.tool_addresses.specs.RequestTexts.{line_shown}
use Rattle.tool_addresses.proofs.AnsweredLines.{Answered}
use Rattle.tool_addresses.proofs.lines.answer_lines.Given as goal

-- the file is the same, the lines that were read so far were answered, and no write failed
abbrev pub invariant-loop : goal.invariant-loop
invariant-loop g l = record {
  continues : Continues l.fn.resolver l.resolver;
  answered : l.resolver.told ≡ true → Answered (line_shown l.fn.resolver.file l.options) (g.R.Read.remaining l.fn.input) (g.R.Read.remaining l.input) (g.P.Printer.state l.fn.out) (g.P.Printer.state l.out);
  failures : (g.P.Printer.state l.out).failures ≡ (g.P.Printer.state l.fn.out).failures;
}
