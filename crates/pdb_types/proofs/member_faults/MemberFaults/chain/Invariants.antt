use Rattle.std.proofs.Common.{◌≡◌, ◌-◌, length}
use Rattle.pdb_types.specs.MemberEnds.{chain_end, chain_from}
use Rattle.pdb_types.specs.ReadListViews.{lists_read}
use Rattle.pdb_types.proofs.member_faults.MemberFaults.chain.Given as goal

-- the lists that are left end as all of them
abbrev pub invariant-loop : goal.invariant-loop
invariant-loop l = record { ends : chain_from l.self (lists_read l.read) (1024 - l.counter) l.left ≡ chain_end l.fn.self l.fn.list; counted : length (lists_read l.read) ≡ l.counter }
