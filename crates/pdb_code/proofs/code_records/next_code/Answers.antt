use Rattle.std.proofs.Common.{sym, ap, ◌∙◌, arith}
use Rattle.pdb_code.specs.CodeRecords.{is_code_kind}
use Rattle.pdb_code.proofs.CodeRecords.{same_fault, skips, some_taken, stops, takes}
use Rattle.pdb_code.proofs.code_records.next_code.Goals as goal

pub returns-in_default-clause-none : goal.returns-in_default-clause-none
returns-in_default-clause-none c = c.loop-record.invariant.same ∙ stops _ _ c.in_default.ensures.none

pub returns-then-may_be_code-clause-some : goal.returns-then-may_be_code-clause-some
returns-then-may_be_code-clause-some c =
    let code = ap is_code_kind (sym c.u16_at.ensures) ∙ (sym c.may_be_code.ensures ∙ c.if-may_be_code.true) in
    some_taken _ _ _ _ c.new.ensures.some
    (c.loop-record.invariant.same ∙ takes _ _ _ c.in-Some.ensures.some _ (omega arith) code)

pub loop-record-preserved : goal.loop-record-preserved
loop-record-preserved c =
    let none = ap is_code_kind (sym c.u16_at.ensures) ∙ (sym c.may_be_code.ensures ∙ c.if-may_be_code.false) in
    let is = c.in-Some.ensures.some in
    record {
      same = c.loop-record.invariant.same ∙ skips _ _ _ is _ (omega arith) none;
      fault = c.loop-record.invariant.fault ∙ same_fault _ _ _ is _ (omega arith);
      behind = omega (arith, c.loop-record.invariant.behind);
      inside = is.inside;
    }

pub returns-then-may_be_code-clause-fault : goal.returns-then-may_be_code-clause-fault
returns-then-may_be_code-clause-fault c = c.loop-record.invariant.fault ∙ same_fault _ _ _ c.in-Some.ensures.some _ (omega arith)
