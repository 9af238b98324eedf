use Rattle.std.proofs.Common.{ap, map, ◌∙◌}
use Rattle.pdb.specs.Container.{stream_size}
use Rattle.pdb_places.specs.AsIfEmpty.{if_read}
use Rattle.tool_lists.specs.StreamRoles.{role_view, stream_number}
use Rattle.tool_lists.specs.StreamTexts.{line_in, role_line}
use Rattle.tool_lists.proofs.StreamOrder.{here_is, one_more, rises_next, same_next}
use Rattle.tool_lists.proofs.stream_texts.put_lines.Goals as goal

pub loop-number-preserved : goal.loop-number-preserved
loop-number-preserved g c =
    let so_far = c.loop-number.invariant in
    let n = c.loop-number.number in
    let roles = c.args.roles.now in
    let file = c.args.pdb.now.file in
    let at = c.loop-number.at in
    let all = c.here-here.ensures.here ∙ here_is stream_number n at roles so_far.rises so_far.same in
    record {
      told = λ told. one_more (role_line c.args.format file roles) n c.args.out.now.items c.loop-number.out.items c.put_stream.new.out.items _ (so_far.told told) (c.in_ok-put_stream.ensures told) (ap (λ rs. line_in c.args.format n (if_read (stream_size file n)) (map role_view rs)) all);
      within = c.here-here.ensures.within;
      rises = rw c.here-here.ensures.count (rises_next stream_number n at roles so_far.rises);
      same = rw c.here-here.ensures.count (same_next stream_number n at roles so_far.same);
    }
