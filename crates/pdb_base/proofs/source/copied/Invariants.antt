use Rattle.std.proofs.Common.{◌≡◌, take}
use Rattle.std.specs.List.{flat_map}
use Rattle.pdb_base.specs.Source.{slice_bytes}
use Rattle.pdb_base.proofs.source.copied.Given as goal

abbrev pub invariant-loop-s : goal.invariant-loop-s
invariant-loop-s l = l.all.items ≡ flat_map (slice_bytes l.bytes) (take l.s-index l.slices)
