use Rattle.std.proofs.Common.{◌≡◌, ◌+◌, ◌*◌, take, vec_len}
use Rattle.pdb_file.proofs.whole.make_room.Given as goal

-- what is there stays in front of the room
abbrev pub invariant-loop : goal.invariant-loop
invariant-loop l = record {
  front : take (vec_len l.fn.bytes) l.bytes.items ≡ l.fn.bytes.items;
  len : vec_len l.bytes ≡ vec_len l.fn.bytes + 2048 * l.counter;
}
