use Rattle.std.proofs.Common.{ℕ, Option, length, take, sym, arith}
use Rattle.std.proofs.lemmas.List.{take_all}
use Rattle.std.proofs.lemmas.List.Elements.{All-more, All-same, All-weaker}
use Rattle.pdb_base.proofs.Passing.{continues_then}
use Rattle.pdb_resolve.specs.KeptCrossings.{IsRead}
use Rattle.pdb_resolve.proofs.ExporterLaws.{still_read}
use Rattle.pdb_resolve.proofs.exporters.read_all_exports.Goals as goal

pub loop-number-preserved : goal.loop-number-preserved
loop-number-preserved g c =
    let i = c.loop-number.number-index in
    let numbers = c.args.numbers.now in
    let old = c.loop-number.exports in
    let new = c.read_exports_where.new.exports in
    let before = All-weaker (IsRead old) (IsRead new) (still_read old new c.in_ok-read_exports_where.ensures.stay) (take i numbers) c.loop-number.invariant.read in
    record {
      continues = continues_then _ _ _ c.loop-number.invariant.continues c.read_exports_where.ensures.continues;
      kept = c.in_ok-read_exports_where.ensures.kept;
      read = All-more (IsRead new) numbers i _ c.loop-number-test.true before c.in_ok-read_exports_where.ensures.read;
    }

pub returns-clause-read : goal.returns-clause-read
returns-clause-read g c =
    let i = c.loop-number.number-index in
    let numbers = c.args.numbers.now in
    All-same (IsRead c.loop-number.exports) numbers (take i numbers) (sym (take_all i numbers (omega (arith, c.loop-number-test.false)))) c.loop-number.invariant.read
