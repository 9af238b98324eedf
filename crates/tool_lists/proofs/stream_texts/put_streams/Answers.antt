use Rattle.std.proofs.Common.{List, ℕ, ◌++◌, ap, ◌∙◌, flat_map}
use Rattle.std.specs.List.{range_with_len}
use Rattle.tool_lists.specs.StreamTexts.{stream_line}
use Rattle.tool_lists.specs.StreamRoles.{StreamRole}
use Rattle.tool_lists.proofs.StreamFilters.{lines_sorted}
use Rattle.tool_lists.proofs.stream_texts.put_streams.Goals as goal

pub returns-clause-text : goal.returns-clause-text
returns-clause-text g c = λ told.
    let file = c.args.pdb.now.file in
    let roles = c.in_ok-put_all.ensures.roles told in
    let put = rw (c.deref.ensures.value, c.put_all.ensures.continues.file) at (c.in_ok-put_lines.ensures told) in
    put ∙ ap (λ (l : List ℕ). c.args.out.now.items ++ l) (lines_sorted c.args.format file c.put_all.new.roles.items c.sort.new.roles.items c.args.count c.in_ok-sort.ensures.stable
    ∙ ap (λ (rs : List StreamRole). flat_map (stream_line c.args.format file rs) (range_with_len 0 c.args.count)) (rw c.new-roles.ensures.items at roles))
