use Rattle.std.proofs.Common.{◌≡◌, map, Ok}
use Rattle.pdb_dbi.specs.Names.{names_up_to}
use Rattle.pdb_dbi.specs.DbiViews.{stream_name}
use Rattle.pdb_dbi.proofs.names.read_names.Given as goal

-- the names so far are those of the first pairs
abbrev pub invariant-loop-k : goal.invariant-loop-k
invariant-loop-k l = names_up_to l.part l.pairs l.k ≡ Ok (map stream_name l.names.items)
