use Rattle.std.proofs.Common.{◌≡◌, ◌≤◌, ◌+◌, ◌*◌, ◌++◌, flat_map, length, take, vec_capacity}
use Rattle.pdb_text.specs.Digits.{hex}
use Rattle.pdb_text.proofs.digits.put_hex_bytes.Given as goal

-- the digits of the bytes so far were put, two for each
abbrev pub invariant-loop-byte : goal.invariant-loop-byte
invariant-loop-byte l = record {
  put : l.out.items ≡ l.fn.out.items ++ flat_map (hex 2) (take l.byte-index l.bytes);
  long : length l.out.items ≡ length l.fn.out.items + 2 * l.byte-index;
  capacity : vec_capacity l.fn.out ≤ vec_capacity l.out;
}
