use Rattle.std.proofs.Common.{◌≤◌, length, rules, arith, ap, ◌∙◌}
use Rattle.pdb_base.specs.Cursor.{Cursor}
use Rattle.pdb_symbols.proofs.SymbolSteps.{item_left, fault_left}
use Rattle.pdb_symbols.proofs.table.SymbolIterFallibleIterator.next.Goals as goal

pub returns-in-Ok-Some-clause-yields : goal.returns-in-Ok-Some-clause-yields
returns-in-Ok-Some-clause-yields c =
    let read = rw c.in-Ok-Some.field-0-is at c.in-Ok-Some.ensures in
    rw c.in-Ok-Some.field-0-is (item_left _ _ _ _ _ c.in-Ok-Some.symbol c.loop-self.invariant.left read.bytes read.reads)

pub returns-in-Err-clause-yields : goal.returns-in-Err-clause-yields
returns-in-Err-clause-yields c =
    let read = c.in-Err.ensures in
    let small = c.loop-self.self.small in
    let same = ap (λ (x : Cursor). x.bytes) c.seek.ensures in
    let long = ap (λ (x : Cursor). x.place) c.seek.ensures in
    let past : length c.seek.new.self.bytes ≤ c.seek.new.self.place = rw (same, long, read.bytes) (omega arith) in
    fault_left _ _ _ _ _ c.in-Err.error c.loop-self.invariant.left (same ∙ read.bytes) (search rules) read.reads past
