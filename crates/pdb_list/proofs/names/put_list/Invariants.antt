use Rattle.std.proofs.Common.{◌≡◌, ◌++◌, flat_map, map}
use Rattle.pdb_list.specs.Texts.{stream_name_text}
use Rattle.pdb.specs.DbiViews.{stream_name}
use Rattle.pdb_list.proofs.names.put_list.Given as goal

-- the lines of the names so far were put
abbrev pub invariant-loop-listed : goal.invariant-loop-listed
invariant-loop-listed l = l.out.items ≡ l.fn.out.items ++ flat_map stream_name_text (map stream_name (map (λ n. n.now) l.yielded))
