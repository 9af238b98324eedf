use Rattle.std.proofs.Common.{map, ◌≡◌, ◌++◌, flat_map, take}
use Rattle.pdb_sample.specs.Sample.{stream_of, size_entry}
use Rattle.pdb_sample.proofs.sample.put_sizes.Given as goal

abbrev pub invariant-loop-stream : goal.invariant-loop-stream
invariant-loop-stream l = l.out.items ≡ l.fn.out.items ++ flat_map size_entry (take l.stream-index (map stream_of l.streams))
