use Rattle.std.proofs.Common.{◌<◌, length, sym, get_or}
use Rattle.std.proofs.lemmas.Grind.{get_or_default_zero}
use Rattle.std.proofs.lemmas.List.Edits.{map_over_more}
use Rattle.pdb_text.specs.OneLine.{in_line}
use Rattle.pdb_text.proofs.one_line.blank_controls.Goals as goal

pub loop-byte-preserved : goal.loop-byte-preserved
loop-byte-preserved c =
    let here = get_or c.loop-byte.bytes c.loop-byte.byte-index 0 in
    let inside : c.loop-byte.byte-index < length c.loop-byte.bytes = rw c.loop-byte.auto.bytes c.loop-byte-test.true in
    let same = sym (get_or_default_zero c.loop-byte.bytes c.loop-byte.byte-index here inside) in
    rw c.in_line.ensures (map_over_more in_line c.args.bytes.now c.loop-byte.bytes c.loop-byte.byte-index here c.loop-byte-test.true c.loop-byte.invariant same)
