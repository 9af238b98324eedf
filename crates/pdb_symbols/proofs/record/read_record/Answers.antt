use Rattle.std.proofs.Common.{◌<◌, ◌^◌, None, Some, arith, rules, sym, ◌∙◌, ap}
use Rattle.std.proofs.lemmas.Result.{err_from_is_err_and}
use Rattle.pdb_base.proofs.Places.{number_is}
use Rattle.pdb_symbols.specs.Views.{symbol_of}
use Rattle.pdb_symbols.proofs.SymbolSteps.{no_length, short_length, no_bytes, whole_record, padding_bytes, symbol_bytes}
use Rattle.pdb_symbols.proofs.record.read_record.Goals as goal

pub returns-in_err-length-clause-reads : goal.returns-in_err-length-clause-reads
returns-in_err-length-clause-reads c =
    let p = err_from_is_err_and c.from_residual.result c.from_residual.ensures.1 in
    rw (p.1, p.2) (no_length _ _ _ c.in_err-length.ensures.0)

pub returns-then-length-lt2-clause-reads : goal.returns-then-length-lt2-clause-reads
returns-then-length-lt2-clause-reads c = short_length _ _ _ c.in_ok-length.ensures.0 c.if-length-lt2.true

pub returns-in_err-bytes-clause-reads : goal.returns-in_err-bytes-clause-reads
returns-in_err-bytes-clause-reads c =
    let p = err_from_is_err_and c.from_residual-in_err-bytes.result c.from_residual-in_err-bytes.ensures.1 in
    let length = c.in_ok-length.ensures in
    let taken = rw c.from.ensures at c.in_err-bytes.ensures.reads in
    rw (p.1, p.2) (no_bytes _ _ _ _ _ _ length.0 length.1 length.2 c.if-length-lt2.false taken.0)

pub returns-then-kind-eq-ALIGN-clause-reads : goal.returns-then-kind-eq-ALIGN-clause-reads
returns-then-kind-eq-ALIGN-clause-reads c =
    let length = c.in_ok-length.ensures in
    let taken = rw c.from.ensures at c.in_ok-bytes.ensures.reads in
    whole_record _ _ _ _ _ _ c.in_ok-bytes.bytes.now None length.0 length.1 length.2 c.if-length-lt2.false taken.0 taken.2 (padding_bytes _ _ (rw c.kind_of-kind.ensures at c.then-kind-eq-ALIGN.either))

pub overflow_cast-place : goal.overflow_cast-place
overflow_cast-place c =
    let is = number_is _ _ _ _ c.in_ok-length.ensures.0 in
    let room = is.there in
    let place = c.pos-place.ensures in
    let small = c.requires in
    let fits : c.pos-place.result < 2 ^ 32 = omega arith in
    search rules

pub returns-clause-reads : goal.returns-clause-reads
returns-clause-reads c =
    let length = c.in_ok-length.ensures in
    let taken = rw c.from.ensures at c.in_ok-bytes.ensures.reads in
    let kind = c.kind_of-kind.ensures in
    let place = c.pos-place.ensures in
    whole_record _ _ _ _ _ _ c.in_ok-bytes.bytes.now (Some (symbol_of c.of.result)) length.0 length.1 length.2 c.if-length-lt2.false taken.0 taken.2
    (symbol_bytes _ _ (rw kind at c.if-kind-eq-ALIGN.false) (rw kind at c.if-kind-eq-SKIP.false) ∙ ap Some (rw place at (sym c.of.ensures)))
