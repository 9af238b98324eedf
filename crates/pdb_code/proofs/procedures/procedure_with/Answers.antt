use Rattle.std.proofs.Common.{rules, ◌≡◌, sym}
use Rattle.std.proofs.lemmas.Fn.{always_returns_same}
use Rattle.pdb_code.proofs.FoundProcedures.{less, is_at, found_there, none_there, none_other}
use Rattle.pdb_code.proofs.procedures.procedure_with.Goals as goal

pub returns-in-Some : goal.returns-in-Some
returns-in-Some c =
    let at = is_at c.args.index c.args.listed.now _ c.requires (c.partition_point-at.ensures.partitioned (less c.args.index) (always_returns_same _ (λ a r. r ≡ less c.args.index a.0.now) _ (λ a r q k. search rules))) in
    let look = c.in-Some.ensures.lookup in
    sym (found_there c.args.index _ _ c.in-Some.procedure.now at look.3.0 (sym look.1) c.if-procedure-index.true)

pub returns-in_default : goal.returns-in_default
returns-in_default c =
    let at = is_at c.args.index c.args.listed.now _ c.requires (c.partition_point-at.ensures.partitioned (less c.args.index) (always_returns_same _ (λ a r. r ≡ less c.args.index a.0.now) _ (λ a r q k. search rules))) in
    let look = c.in-Some.ensures.lookup in
    sym (none_other c.args.index _ _ c.in-Some.procedure.now at look.3.0 (sym look.1) c.if-procedure-index.false)

pub returns-in_default-2 : goal.returns-in_default-2
returns-in_default-2 c =
    let at = is_at c.args.index c.args.listed.now _ c.requires (c.partition_point-at.ensures.partitioned (less c.args.index) (always_returns_same _ (λ a r. r ≡ less c.args.index a.0.now) _ (λ a r q k. search rules))) in
    sym (none_there c.args.index _ _ at (rw c.in_default.is at c.get.ensures.lookup).3)
