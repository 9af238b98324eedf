-- What iterators over overloads show.
use Rattle.std.specs.Prelude.{ℕ, List}
use Rattle.pdb_base.specs.Left.{Left}
use Rattle.pdb_base.specs.Tiling.{listing}
use Rattle.pdb_types.specs.declared.overloads.MethodListEntry.{MethodListEntry}
use Rattle.pdb_types.specs.declared.overloads.OverloadIter.{OverloadIter}
use Rattle.pdb_types.specs.Overloads.{overloads}

-- the functions that an iterator has left, and perhaps a fault after them
abbrev pub overloads_left : OverloadIter → Left MethodListEntry
overloads_left it = listing overloads it.buffer.bytes it.buffer.place

-- the bytes of its list; its steps so far
abbrev pub overloads_bytes : OverloadIter → List ℕ
overloads_bytes it = it.buffer.bytes

abbrev pub overloads_steps : OverloadIter → ℕ
overloads_steps it = it.steps.count
