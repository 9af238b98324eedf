use Rattle.std.proofs.Common.{◌≡◌, ◌<◌, ◌≤◌, length, map, refl, ◌∙◌, ap, arith}
use Rattle.std.proofs.lemmas.List.{length-map}
use Rattle.pdb_modules.specs.KeptRows.{own}
use Rattle.pdb_modules.proofs.BlockLemmas.{block_moves, reading_goes_on, read_to_fault, read_to_end, whole_at_fault, own_at_fault, whole_at_end, own_at_end}
use Rattle.pdb_modules.proofs.rows.add_part.Goals as goal

pub loop-buffer-preserved : goal.loop-buffer-preserved
loop-buffer-preserved c =
    let counted : length (map own c.args.rows.now.items) ≡ c.len-from.result = omega (arith, c.args.rows.now.ok.0, length-map c.args.rows.now.items own) in
    record {
      room = omega (arith, c.in_ok-add_block-in-Ok.ensures.len);
      few = omega (arith, c.in_ok-add_block-in-Ok.ensures.grows, c.in-Ok.ensures.few, c.in-Ok.ensures.reads.2);
      same = c.in-Ok.ensures.reads.1 ∙ c.loop-buffer.invariant.same;
      inside = (block_moves c.args.part.place c.args.part.has_columns c.args.part.bytes.now c.loop-buffer.buffer c.read_block.new.buffer c.loop-buffer.invariant.same _ _ c.loop-buffer.invariant.reading c.in-Ok.block c.in-Ok.ensures.reads).1;
      reading = reading_goes_on c.args.part.place c.args.part.has_columns c.args.part.bytes.now c.loop-buffer.buffer c.read_block.new.buffer c.loop-buffer.invariant.same _ _ c.loop-buffer.invariant.reading c.in-Ok.block c.in-Ok.ensures.reads _ c.in_ok-add_block-in-Ok.ensures.whole (c.in_ok-add_block-in-Ok.ensures.own _ c.loop-buffer.invariant.reading.ms counted c.loop-buffer.invariant.reading.alone);
    }

pub returns-in-Err-clause-whole : goal.returns-in-Err-clause-whole
returns-in-Err-clause-whole c =
    let differ : c.loop-buffer.buffer.place ≡ length c.loop-buffer.buffer.bytes → ⊥ = λ e. (let f = c.loop-buffer-test.ensures.1 e in cc) in
    let below : c.loop-buffer.buffer.place < length c.args.part.bytes.now = let i = c.loop-buffer.invariant.inside in omega (arith, differ, ap length c.loop-buffer.invariant.same) in
    let read = read_to_fault c.args.part.place c.args.part.has_columns c.args.part.bytes.now c.loop-buffer.buffer c.read_block.new.buffer c.loop-buffer.invariant.same _ _ c.loop-buffer.invariant.reading c.in-Err.error below c.in-Err.ensures.reads in
    whole_at_fault c.args.part.place c.args.part.has_columns c.args.part.bytes.now c.loop-buffer.buffer c.read_block.new.buffer c.loop-buffer.invariant.same _ _ c.loop-buffer.invariant.reading c.args.part.code_size c.in-Err.error read

pub returns-in-Err-clause-own : goal.returns-in-Err-clause-own
returns-in-Err-clause-own c =
    let differ : c.loop-buffer.buffer.place ≡ length c.loop-buffer.buffer.bytes → ⊥ = λ e. (let f = c.loop-buffer-test.ensures.1 e in cc) in
    let below : c.loop-buffer.buffer.place < length c.args.part.bytes.now = let i = c.loop-buffer.invariant.inside in omega (arith, differ, ap length c.loop-buffer.invariant.same) in
    let read = read_to_fault c.args.part.place c.args.part.has_columns c.args.part.bytes.now c.loop-buffer.buffer c.read_block.new.buffer c.loop-buffer.invariant.same _ _ c.loop-buffer.invariant.reading c.in-Err.error below c.in-Err.ensures.reads in
    own_at_fault c.args.part.place c.args.part.has_columns c.args.part.bytes.now c.loop-buffer.buffer c.read_block.new.buffer c.loop-buffer.invariant.same _ _ c.loop-buffer.invariant.reading c.args.part.code_size c.in-Err.error read

pub returns-in-Err-clause-fault : goal.returns-in-Err-clause-fault
returns-in-Err-clause-fault c =
    let differ : c.loop-buffer.buffer.place ≡ length c.loop-buffer.buffer.bytes → ⊥ = λ e. (let f = c.loop-buffer-test.ensures.1 e in cc) in
    let below : c.loop-buffer.buffer.place < length c.args.part.bytes.now = let i = c.loop-buffer.invariant.inside in omega (arith, differ, ap length c.loop-buffer.invariant.same) in
    let read = read_to_fault c.args.part.place c.args.part.has_columns c.args.part.bytes.now c.loop-buffer.buffer c.read_block.new.buffer c.loop-buffer.invariant.same _ _ c.loop-buffer.invariant.reading c.in-Err.error below c.in-Err.ensures.reads in
    read.fault_is

pub returns-clause-whole : goal.returns-clause-whole
returns-clause-whole c =
    let ended : c.loop-buffer.buffer.place ≡ length c.loop-buffer.buffer.bytes = c.loop-buffer-test.ensures.0 refl in
    let past : length c.args.part.bytes.now ≤ c.loop-buffer.buffer.place = omega (arith, ap length c.loop-buffer.invariant.same) in
    let read = read_to_end c.args.part.place c.args.part.has_columns c.args.part.bytes.now c.loop-buffer.buffer c.loop-buffer.buffer c.loop-buffer.invariant.same _ _ c.loop-buffer.invariant.reading past in
    whole_at_end c.args.part.place c.args.part.has_columns c.args.part.bytes.now c.loop-buffer.buffer c.loop-buffer.buffer c.loop-buffer.invariant.same _ _ c.loop-buffer.invariant.reading c.args.part.code_size c.wrapping_add.result c.wrapping_add.ensures.section c.wrapping_add.ensures.offset c.note.new.rows.items read c.note.ensures.whole

pub returns-clause-own : goal.returns-clause-own
returns-clause-own c =
    let ended : c.loop-buffer.buffer.place ≡ length c.loop-buffer.buffer.bytes = c.loop-buffer-test.ensures.0 refl in
    let past : length c.args.part.bytes.now ≤ c.loop-buffer.buffer.place = omega (arith, ap length c.loop-buffer.invariant.same) in
    let read = read_to_end c.args.part.place c.args.part.has_columns c.args.part.bytes.now c.loop-buffer.buffer c.loop-buffer.buffer c.loop-buffer.invariant.same _ _ c.loop-buffer.invariant.reading past in
    own_at_end c.args.part.place c.args.part.has_columns c.args.part.bytes.now c.loop-buffer.buffer c.loop-buffer.buffer c.loop-buffer.invariant.same _ _ c.loop-buffer.invariant.reading c.args.part.code_size c.wrapping_add.result c.wrapping_add.ensures.section c.wrapping_add.ensures.offset c.note.new.rows.items read c.len-from.result (omega (arith, c.args.rows.now.ok.0, length-map c.args.rows.now.items own)) c.note.ensures.own

pub returns-clause-fault : goal.returns-clause-fault
returns-clause-fault c =
    let ended : c.loop-buffer.buffer.place ≡ length c.loop-buffer.buffer.bytes = c.loop-buffer-test.ensures.0 refl in
    let past : length c.args.part.bytes.now ≤ c.loop-buffer.buffer.place = omega (arith, ap length c.loop-buffer.invariant.same) in
    let read = read_to_end c.args.part.place c.args.part.has_columns c.args.part.bytes.now c.loop-buffer.buffer c.loop-buffer.buffer c.loop-buffer.invariant.same _ _ c.loop-buffer.invariant.reading past in
    read.fault_is
