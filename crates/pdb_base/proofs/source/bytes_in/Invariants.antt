use Rattle.std.proofs.Common.{◌≡◌, ◌-◌, ◌^◌, min, take}
use Rattle.std.specs.List.{sum_by}
use Rattle.pdb_base.proofs.source.bytes_in.Given as goal

abbrev pub invariant-loop-slice : goal.invariant-loop-slice
invariant-loop-slice l = record {
  size : l.size ≡ min (sum_by (λ s. s.size) (take l.slice-index l.slices)) (2 ^ 64 - 1);
}
