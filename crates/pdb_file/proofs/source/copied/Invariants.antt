use Rattle.std.proofs.Common.{◌≡◌, ℕ, List, length, take}
use Rattle.std.specs.List.{flat_map, sum_by}
use Rattle.pdb_base.specs.Source.{slice_bytes}
use Rattle.pdb_file.specs.HeldBytes.{Agrees}
use Rattle.pdb_file.proofs.source.copied.Given as goal

abbrev pub invariant-loop-slice : goal.invariant-loop-slice
invariant-loop-slice l = record {
  bytes : (F : List ℕ) → Agrees F l.held → l.all.items ≡ flat_map (slice_bytes F) (take l.slice-index l.slices);
  many : length l.all.items ≡ sum_by (λ s. s.size) (take l.slice-index l.slices);
}
