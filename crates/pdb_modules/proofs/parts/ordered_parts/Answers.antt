use Rattle.std.proofs.Common.{◌≡◌, ◌<◌, ◌≤◌, Ok, List, map, length, refl, sym, ap, subst, ◌∙◌, arith}
use Rattle.pdb_modules.specs.Lines.{Subsection}
use Rattle.pdb_modules.specs.KeptRows.{subsection_of}
use Rattle.pdb_modules.specs.LineOrder.{InOrder}
use Rattle.pdb_modules.specs.Subsections.{piece_length}
use Rattle.pdb_modules.specs.SubsectionViews.{bytes_of_piece}
use Rattle.pdb_modules.specs.ProgramParts.{whole_piece_at}
use Rattle.pdb_modules.proofs.Sorting.{in_order}
use Rattle.pdb_modules.proofs.Turns.{turn_moves}
use Rattle.pdb_modules.proofs.WholePieces.{whole_within}
use Rattle.pdb_modules.proofs.ProgramPieces.{some_listed, none_collected, passed, replaced, taken, refused_with, collected}
use Rattle.pdb_modules.proofs.parts.ordered_parts.Goals as goal

pub loop-buffer-preserved-in-Continue-1 : goal.loop-buffer-preserved-in-Continue-1
loop-buffer-preserved-in-Continue-1 c = record {
  few = omega (arith, c.in-Ok.ensures.reads.2, c.loop-buffer.invariant.few, c.in_ok-push_part-in-Ok.ensures.size);
  count = omega (arith, c.in-Ok.ensures.reads.2, c.loop-buffer.invariant.count, c.in_ok-push_part-in-Ok.ensures.count);
  same = c.in-Ok.ensures.reads.1 ∙ c.loop-buffer.invariant.same;
  inside = (turn_moves whole_piece_at piece_length whole_within bytes_of_piece c.args.lines_data.now c.loop-buffer.buffer c.read_whole_piece.new.buffer c.loop-buffer.invariant.same c.in-Ok.piece c.in-Ok.ensures.reads).1;
  collecting = taken c.args.lines_data.now c.loop-buffer.buffer c.read_whole_piece.new.buffer c.loop-buffer.invariant.same _ _ c.loop-buffer.invariant.collecting c.in-Ok.piece c.in-Ok.ensures.reads c.if-piece-eq-LINES.true _ c.in_ok-push_part-in-Ok.ensures.pushed;
}

pub loop-buffer-preserved-then-piece-eq-FILE_CHECKSUMS : goal.loop-buffer-preserved-then-piece-eq-FILE_CHECKSUMS
loop-buffer-preserved-then-piece-eq-FILE_CHECKSUMS c = record {
  few = omega (arith, c.in-Ok.ensures.reads.2, c.loop-buffer.invariant.few);
  count = omega (arith, c.in-Ok.ensures.reads.2, c.loop-buffer.invariant.count);
  same = c.in-Ok.ensures.reads.1 ∙ c.loop-buffer.invariant.same;
  inside = (turn_moves whole_piece_at piece_length whole_within bytes_of_piece c.args.lines_data.now c.loop-buffer.buffer c.read_whole_piece.new.buffer c.loop-buffer.invariant.same c.in-Ok.piece c.in-Ok.ensures.reads).1;
  collecting = replaced c.args.lines_data.now c.loop-buffer.buffer c.read_whole_piece.new.buffer c.loop-buffer.invariant.same _ _ c.loop-buffer.invariant.collecting c.in-Ok.piece c.in-Ok.ensures.reads c.if-piece-eq-LINES.false c.if-piece-eq-FILE_CHECKSUMS.true;
}

pub loop-buffer-preserved : goal.loop-buffer-preserved
loop-buffer-preserved c = record {
  few = omega (arith, c.in-Ok.ensures.reads.2, c.loop-buffer.invariant.few);
  count = omega (arith, c.in-Ok.ensures.reads.2, c.loop-buffer.invariant.count);
  same = c.in-Ok.ensures.reads.1 ∙ c.loop-buffer.invariant.same;
  inside = (turn_moves whole_piece_at piece_length whole_within bytes_of_piece c.args.lines_data.now c.loop-buffer.buffer c.read_whole_piece.new.buffer c.loop-buffer.invariant.same c.in-Ok.piece c.in-Ok.ensures.reads).1;
  collecting = passed c.args.lines_data.now c.loop-buffer.buffer c.read_whole_piece.new.buffer c.loop-buffer.invariant.same _ _ c.loop-buffer.invariant.collecting c.in-Ok.piece c.in-Ok.ensures.reads c.if-piece-eq-LINES.false c.if-piece-eq-FILE_CHECKSUMS.false;
}

pub returns-in-Err-clause-parts : goal.returns-in-Err-clause-parts
returns-in-Err-clause-parts c =
    let differ : c.loop-buffer.buffer.place ≡ length c.loop-buffer.buffer.bytes → ⊥ = λ e. (let f = c.loop-buffer-test.ensures.1 e in cc) in
    let below : c.loop-buffer.buffer.place < length c.args.lines_data.now = let i = c.loop-buffer.invariant.inside in omega (arith, differ, ap length c.loop-buffer.invariant.same) in
    refused_with c.args.lines_data.now c.loop-buffer.buffer c.read_whole_piece.new.buffer c.loop-buffer.invariant.same _ _ c.loop-buffer.invariant.collecting c.in-Err.error below c.in-Err.ensures.reads

pub returns-in-Ok-sort-clause-parts : goal.returns-in-Ok-sort-clause-parts
returns-in-Ok-sort-clause-parts c =
    let ended : c.loop-buffer.buffer.place ≡ length c.loop-buffer.buffer.bytes = c.loop-buffer-test.ensures.0 refl in
    let past : length c.args.lines_data.now ≤ c.loop-buffer.buffer.place = omega (arith, ap length c.loop-buffer.invariant.same) in
    collected c.args.lines_data.now c.loop-buffer.buffer c.loop-buffer.buffer c.loop-buffer.invariant.same _ _ c.loop-buffer.invariant.collecting past
    ∙ ap (λ (ss : List Subsection). Ok (record { subsections = ss; checksums = c.loop-buffer.checksums.now })) (sym c.in-Ok-sort.ensures.ordered)

pub returns-in-Ok-sort-clause-order : goal.returns-in-Ok-sort-clause-order
returns-in-Ok-sort-clause-order c = subst InOrder (sym c.in-Ok-sort.ensures.ordered) (in_order (map subsection_of c.loop-buffer.lines.items))

pub returns-in_err-push_part-in-Ok-clause-lean : goal.returns-in_err-push_part-in-Ok-clause-lean
returns-in_err-push_part-in-Ok-clause-lean c =
    λ none. absurd (some_listed c.args.lines_data.now c.loop-buffer.buffer c.read_whole_piece.new.buffer c.loop-buffer.invariant.same _ _ c.loop-buffer.invariant.collecting c.in-Ok.piece c.in-Ok.ensures.reads c.if-piece-eq-LINES.true none)

pub returns-clause-lean : goal.returns-clause-lean
returns-clause-lean c =
    let ended : c.loop-buffer.buffer.place ≡ length c.loop-buffer.buffer.bytes = c.loop-buffer-test.ensures.0 refl in
    let past : length c.args.lines_data.now ≤ c.loop-buffer.buffer.place = omega (arith, ap length c.loop-buffer.invariant.same) in
    λ none e. let sorted = c.in-Err-sort.ensures.lean (none_collected c.args.lines_data.now c.loop-buffer.buffer c.loop-buffer.buffer c.loop-buffer.invariant.same _ _ c.loop-buffer.invariant.collecting past none) in absurd cc
