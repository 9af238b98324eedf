use Rattle.std.proofs.Common.{◌≡◌, take, true}
use Rattle.pdb.specs.Source.{Continues}
use Rattle.tool_addresses.specs.RequestTexts.{address_shown}
use Rattle.tool_printing.specs.Printing.{Printed, all_shown}
use Rattle.tool_addresses.proofs.resolve.print_addresses.Given as goal

-- the file is the same, and the texts of the addresses so far were printed, and no write failed
abbrev pub invariant-loop-address : goal.invariant-loop-address
invariant-loop-address g l = record {
  continues : Continues l.fn.resolver l.resolver;
  printed : l.resolver.told ≡ true → Printed (all_shown (address_shown l.fn.resolver.file l.options) (take l.address-index l.addresses)) (g.P.Printer.state l.fn.out) (g.P.Printer.state l.out);
  failures : (g.P.Printer.state l.out).failures ≡ (g.P.Printer.state l.fn.out).failures;
}
