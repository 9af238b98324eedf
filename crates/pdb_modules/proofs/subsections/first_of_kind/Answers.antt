use Rattle.std.proofs.Common.{◌≡◌, ◌<◌, ◌≤◌, length, refl, ap, ◌∙◌, arith}
use Rattle.pdb_modules.proofs.SubsectionLemmas.{pieces_within, searched, found, refused, missing, piece_error}
use Rattle.pdb_modules.specs.Subsections.{piece_at, piece_length}
use Rattle.pdb_modules.specs.SubsectionViews.{bytes_of_piece}
use Rattle.pdb_modules.proofs.Turns.{turn_moves}
use Rattle.pdb_modules.proofs.subsections.first_of_kind.Goals as goal

pub returns-then-piece-kind-clause-part : goal.returns-then-piece-kind-clause-part
returns-then-piece-kind-clause-part c =
    found c.args.kind c.args.lines_data.now c.loop-buffer.buffer c.read_piece.new.buffer c.loop-buffer.invariant.same c.loop-buffer.invariant.searching c.in-Ok.piece c.in-Ok.ensures.reads c.if-piece-kind.true

pub loop-buffer-preserved : goal.loop-buffer-preserved
loop-buffer-preserved c = record {
  same = c.in-Ok.ensures.reads.1 ∙ c.loop-buffer.invariant.same;
  inside = (turn_moves piece_at piece_length pieces_within bytes_of_piece c.args.lines_data.now c.loop-buffer.buffer c.read_piece.new.buffer c.loop-buffer.invariant.same c.in-Ok.piece c.in-Ok.ensures.reads).1;
  searching = searched c.args.kind c.args.lines_data.now c.loop-buffer.buffer c.read_piece.new.buffer c.loop-buffer.invariant.same c.loop-buffer.invariant.searching c.in-Ok.piece c.in-Ok.ensures.reads c.if-piece-kind.false;
}

pub returns-in-Err-clause-part : goal.returns-in-Err-clause-part
returns-in-Err-clause-part c =
    let differ : c.loop-buffer.buffer.place ≡ length c.loop-buffer.buffer.bytes → ⊥ = λ e. (let f = c.loop-buffer-test.ensures.1 e in cc) in
    let below : c.loop-buffer.buffer.place < length c.args.lines_data.now = let i = c.loop-buffer.invariant.inside in omega (arith, differ, ap length c.loop-buffer.invariant.same) in
    (refused c.args.kind c.args.lines_data.now c.loop-buffer.buffer c.read_piece.new.buffer c.loop-buffer.invariant.same c.loop-buffer.invariant.searching c.in-Err.error below c.in-Err.ensures.reads, c.in-Err.ensures.reads.2, c.in-Err.ensures.reads.3)

pub returns-in-Err-clause-refused : goal.returns-in-Err-clause-refused
returns-in-Err-clause-refused c = piece_error c.loop-buffer.buffer.bytes c.loop-buffer.buffer.place c.in-Err.error c.in-Err.ensures.reads.0

pub returns-clause-part : goal.returns-clause-part
returns-clause-part c =
    let ended : c.loop-buffer.buffer.place ≡ length c.loop-buffer.buffer.bytes = c.loop-buffer-test.ensures.0 refl in
    let past : length c.args.lines_data.now ≤ c.loop-buffer.buffer.place = omega (arith, ap length c.loop-buffer.invariant.same) in
    missing c.args.kind c.args.lines_data.now c.loop-buffer.buffer c.loop-buffer.buffer c.loop-buffer.invariant.same c.loop-buffer.invariant.searching past
