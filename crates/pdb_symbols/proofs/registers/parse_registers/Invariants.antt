use Rattle.std.proofs.Common.{◌≡◌, ◌-◌}
use Rattle.pdb_symbols.specs.Data.{shown_registers}
use Rattle.pdb_symbols.specs.Groups.{named_register}
use Rattle.pdb_base.specs.Layouts.{list_at}
use Rattle.pdb_symbols.proofs.RegisterLoop.{with_front}
use Rattle.pdb_symbols.proofs.registers.parse_registers.Given as goal

-- what was read and what is still read make the list
abbrev pub invariant-loop : goal.invariant-loop
invariant-loop l = record {
  same : l.buffer.bytes ≡ l.fn.buffer.bytes;
  read : with_front (shown_registers l.registers.items) (list_at named_register (l.count - l.counter) l.kind l.fn.buffer.bytes l.buffer.place) ≡ list_at named_register l.count l.kind l.fn.buffer.bytes l.fn.buffer.place;
}
