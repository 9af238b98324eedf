use Rattle.std.proofs.Common.{◌≡◌, ◌<◌, ◌≤◌, length, refl, ap, ◌∙◌, arith}
use Rattle.pdb_modules.specs.Subsections.{piece_length}
use Rattle.pdb_modules.specs.SubsectionViews.{bytes_of_piece}
use Rattle.pdb_modules.specs.ProgramParts.{whole_piece_at}
use Rattle.pdb_modules.proofs.Turns.{turn_moves}
use Rattle.pdb_modules.proofs.WholePieces.{whole_within, kept, renewed, faulty, whole_to_end, all_kept, checksums_fail, checksums_end}
use Rattle.pdb_modules.proofs.parts.last_checksums.Goals as goal

pub loop-buffer-preserved-then-piece-eq-FILE_CHECKSUMS : goal.loop-buffer-preserved-then-piece-eq-FILE_CHECKSUMS
loop-buffer-preserved-then-piece-eq-FILE_CHECKSUMS c = record {
  same = c.in-Ok.ensures.reads.1 ∙ c.loop-buffer.invariant.same;
  inside = (turn_moves whole_piece_at piece_length whole_within bytes_of_piece c.args.lines_data.now c.loop-buffer.buffer c.read_whole_piece.new.buffer c.loop-buffer.invariant.same c.in-Ok.piece c.in-Ok.ensures.reads).1;
  keeping = renewed c.args.lines_data.now c.loop-buffer.buffer c.read_whole_piece.new.buffer c.loop-buffer.invariant.same _ c.loop-buffer.invariant.keeping c.in-Ok.piece c.in-Ok.ensures.reads c.if-piece-eq-FILE_CHECKSUMS.true;
}

pub loop-buffer-preserved : goal.loop-buffer-preserved
loop-buffer-preserved c = record {
  same = c.in-Ok.ensures.reads.1 ∙ c.loop-buffer.invariant.same;
  inside = (turn_moves whole_piece_at piece_length whole_within bytes_of_piece c.args.lines_data.now c.loop-buffer.buffer c.read_whole_piece.new.buffer c.loop-buffer.invariant.same c.in-Ok.piece c.in-Ok.ensures.reads).1;
  keeping = kept c.args.lines_data.now c.loop-buffer.buffer c.read_whole_piece.new.buffer c.loop-buffer.invariant.same _ c.loop-buffer.invariant.keeping c.in-Ok.piece c.in-Ok.ensures.reads c.if-piece-eq-FILE_CHECKSUMS.false;
}

pub returns-in-Err : goal.returns-in-Err
returns-in-Err c =
    let differ : c.loop-buffer.buffer.place ≡ length c.loop-buffer.buffer.bytes → ⊥ = λ e. (let f = c.loop-buffer-test.ensures.1 e in cc) in
    let below : c.loop-buffer.buffer.place < length c.args.lines_data.now = let i = c.loop-buffer.invariant.inside in omega (arith, differ, ap length c.loop-buffer.invariant.same) in
    let fault = faulty c.args.lines_data.now c.loop-buffer.buffer c.read_whole_piece.new.buffer c.loop-buffer.invariant.same _ c.loop-buffer.invariant.keeping c.in-Err.error below c.in-Err.ensures.reads in
    record { part = (checksums_fail c.args.lines_data.now c.in-Err.error fault, c.in-Err.ensures.reads.2, c.in-Err.ensures.reads.3) }

pub returns : goal.returns
returns c =
    let ended : c.loop-buffer.buffer.place ≡ length c.loop-buffer.buffer.bytes = c.loop-buffer-test.ensures.0 refl in
    let past : length c.args.lines_data.now ≤ c.loop-buffer.buffer.place = omega (arith, ap length c.loop-buffer.invariant.same) in
    record {
      part =
          checksums_end c.args.lines_data.now c.loop-buffer.checksums.now
          (whole_to_end c.args.lines_data.now c.loop-buffer.buffer c.loop-buffer.buffer c.loop-buffer.invariant.same _ c.loop-buffer.invariant.keeping past)
          (all_kept c.args.lines_data.now c.loop-buffer.buffer c.loop-buffer.buffer c.loop-buffer.invariant.same _ c.loop-buffer.invariant.keeping past);
    }
