use Rattle.std.proofs.Common.{◌≡◌, ◌++◌, length, flat_map}
use Rattle.pdb_text.specs.Digits.{hex}
use Rattle.tool_fields.proofs.values_forms.put_all_bytes.Given as goal

-- the digits so far, and those of the bytes that are left, are those of all
abbrev pub invariant-loop-rest : goal.invariant-loop-rest
invariant-loop-rest l = l.out.items ++ flat_map (hex 2) l.rest ≡ l.fn.out.items ++ flat_map (hex 2) l.fn.bytes

abbrev pub decreases-loop-rest : goal.decreases-loop-rest
decreases-loop-rest l = length l.rest
