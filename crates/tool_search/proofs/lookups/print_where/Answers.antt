use Rattle.pdb_resolve.specs.FileParts.{items_listed}
use Rattle.pdb.proofs.Passing.{continues_then, may_after}
use Rattle.tool_output.proofs.Stops.{halts_weaken}
use Rattle.tool_search.proofs.lookups.print_where.Goals as goal

pub returns-clause-prints : goal.returns-clause-prints
unfolding items_listed
returns-clause-prints g c = λ told.
    let t4 = c.print_plain.ensures.continues.told told in
    let t3 = c.address_map.ensures.continues.told t4 in
    let t2 = c.types_stream.ensures.continues.told t3 in
    let t1 = c.ids_stream.ensures.continues.told t2 in
    rw (c.in_ok-asking.ensures.is, c.as_ref.ensures.value, c.as_ref-2.ensures.value, c.as_ref-3.ensures.value, (c.in_ok-strings.ensures.is t1), (c.in_ok-ids.ensures.is t2), (c.in_ok-types.ensures.is t3), (c.in_ok-map.ensures.is t4), c.address_map.ensures.continues.file, c.types_stream.ensures.continues.file, c.ids_stream.ensures.continues.file, c.strings_of.ensures.continues.file) at (c.print_plain.ensures.prints told)

pub returns-clause-halts : goal.returns-clause-halts
returns-clause-halts g c =
    let on = continues_then _ _ _ (continues_then _ _ _ (continues_then _ _ _ c.strings_of.ensures.continues c.ids_stream.ensures.continues) c.types_stream.ensures.continues) c.address_map.ensures.continues in
    halts_weaken _ _ _ _ c.print_plain.result (may_after _ _ _ on) c.print_plain.ensures.halts
