use Rattle.std.proofs.Common.{◌≡◌, ◌-◌}
use Rattle.pdb_records.specs.RecordParts.{names_passed}
use Rattle.pdb_records.proofs.strings.pass_names.Given as goal

-- what is still to be passed fails as all does
abbrev pub invariant-loop : goal.invariant-loop
invariant-loop l = record {
  same : l.buffer.bytes ≡ l.bytes;
  passed : names_passed (l.count - l.counter) l.bytes l.buffer.place ≡ names_passed l.count l.bytes 0;
}
