use Rattle.std.proofs.Common.{◌≡◌, ◌≤◌, ◌-◌, length}
use Rattle.pdb.specs.SymbolList.{symbols}
use Rattle.pdb.specs.Tiling.{listing}
use Rattle.pdb_code.specs.CodeRecords.{code_left}
use Rattle.pdb_code.proofs.code_records.next_code.Given as goal

-- only records that are no code were passed
abbrev pub invariant-loop-record : goal.invariant-loop-record
invariant-loop-record l = record {
  same : code_left l.bytes l.fn.at ≡ code_left l.bytes l.at;
  fault : (listing symbols l.bytes l.fn.at).fault ≡ (listing symbols l.bytes l.at).fault;
  behind : l.fn.at ≤ l.at;
  inside : l.at ≤ length l.bytes;
}

abbrev pub decreases-loop-record : goal.decreases-loop-record
decreases-loop-record l = length l.bytes - l.at
