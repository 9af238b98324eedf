use Rattle.std.proofs.Common.{◌≡◌, ◌+◌, ◌*◌, ◌-◌, ◌≤◌, length}
use Rattle.pdb_symbols.specs.Views.{symbols_left}
use Rattle.pdb_symbols.proofs.table.SymbolIterFallibleIterator.next.Given as goal

-- only padding was passed over, a step for each piece
abbrev pub invariant-loop-self : goal.invariant-loop-self
invariant-loop-self l = record {
  left : symbols_left l.fn.self ≡ symbols_left l.self;
  bytes : l.self.buffer.bytes ≡ l.fn.self.buffer.bytes;
  steps : 4 * l.self.steps.count + l.fn.self.buffer.place ≤ 4 * l.fn.self.steps.count + l.self.buffer.place;
  each : l.self.buffer.place + 65537 * l.fn.self.steps.count ≤ l.fn.self.buffer.place + 65537 * l.self.steps.count;
  more : l.fn.self.steps.count ≤ l.self.steps.count;
}

abbrev pub decreases-loop-self : goal.decreases-loop-self
decreases-loop-self l = length l.self.buffer.bytes - l.self.buffer.place
