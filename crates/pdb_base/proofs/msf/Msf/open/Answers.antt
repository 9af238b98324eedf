use Rattle.std.proofs.lemmas.Result.{err_from_is_err_and}
use Rattle.pdb_base.specs.Heads.{head}
use Rattle.pdb_base.proofs.Passing.{unsteady_before}
use Rattle.pdb_base.proofs.OpenLemmas.{open-head_fails, open-list_fails, open-directory_fails, open-done, opens-done}
use Rattle.pdb_base.proofs.msf.Msf.open.Goals as goal

pub returns-in_err-head-clause-answer : goal.returns-in_err-head-clause-answer
returns-in_err-head-clause-answer g c = λ known.
    let told = (c.in_err-head.ensures.continues.known known).1 in
    let p = err_from_is_err_and c.from_residual.result c.from_residual.ensures.1 in
    rw (p.1, p.2) (open-head_fails _ _ c.in_err-head.field-0.0 (g.S.Meaning.state c.args.source).file (λ m. m.unsteady) (c.in_err-head.ensures.head told))

pub returns-in_err-list-clause-answer : goal.returns-in_err-list-clause-answer
returns-in_err-list-clause-answer g c = λ known.
    let k1 = c.in_ok-head.ensures.continues.known known in
    let k2 = c.in_err-list.ensures.continues.known k1 in
    let p = err_from_is_err_and c.from_residual-in_err-list.result c.from_residual-in_err-list.ensures.1 in
    rw (p.1, p.2) (open-list_fails _ _ c.in_err-list.field-0.0 (g.S.Meaning.state c.args.source).file (head c.in_ok-head.head) (c.in_ok-head.ensures.head k1.1) (λ m. unsteady_before _ _ c.in_ok-head.ensures.continues m.unsteady) (rw c.in_ok-head.ensures.continues.file at (c.in_err-list.ensures.list k2.1)))

pub returns-in_err-directory-clause-answer : goal.returns-in_err-directory-clause-answer
returns-in_err-directory-clause-answer g c = λ known.
    let k1 = c.in_ok-head.ensures.continues.known known in
    let k2 = c.in_ok-list.ensures.continues.known k1 in
    let k3 = c.in_err-directory.ensures.continues.known k2 in
    let p = err_from_is_err_and c.from_residual-in_err-directory.result c.from_residual-in_err-directory.ensures.1 in
    let f1 = c.in_ok-head.ensures.continues.file in
    let f2 = c.in_ok-list.ensures.continues.file in
    rw (p.1, p.2) (open-directory_fails _ _ c.in_err-directory.field-0.0 (g.S.Meaning.state c.args.source).file (head c.in_ok-head.head) _ (c.in_ok-head.ensures.head k1.1) (rw f1 at (c.in_ok-list.ensures.list k2.1))
    (λ m. unsteady_before _ _ c.in_ok-head.ensures.continues (unsteady_before _ _ c.in_ok-list.ensures.continues m.unsteady)) (rw (c.as_slice.ensures, f2, f1) at (c.in_err-directory.ensures.bytes k3.1)))

-- what is there where all that was read is the file's
pub invariant_of-result : goal.invariant_of-result
invariant_of-result g c =
    let f1 = c.in_ok-head.ensures.continues.file in
    let f2 = c.in_ok-list.ensures.continues.file in
    let f3 = c.in_ok-directory.ensures.continues.file in
    let sums = rw c.as_slice-2.ensures at c.in_ok-before.ensures in (
      λ told.
          let t2 = c.in_ok-directory.ensures.continues.told told in
          let t1 = c.in_ok-list.ensures.continues.told t2 in
          record {
            opened = rw (f3, f2, f1) (open-done (g.S.Meaning.state c.args.source).file (head c.in_ok-head.head) _ _ (c.in_ok-head.ensures.head t1) (rw f1 at (c.in_ok-list.ensures.list t2)) (rw (c.as_slice.ensures, f2, f1) at (c.in_ok-directory.ensures.bytes told)));
            large = c.in_ok-head.ensures.size.0;
            sums = sums;
          },
      c.in_ok-head.ensures.size.0,
      sums,
    )

pub returns-clause-opened : goal.returns-clause-opened
returns-clause-opened g c = λ told.
    let f1 = c.in_ok-head.ensures.continues.file in
    let f2 = c.in_ok-list.ensures.continues.file in
    let t2 = c.in_ok-directory.ensures.continues.told told in
    let t1 = c.in_ok-list.ensures.continues.told t2 in
    opens-done _ _ (open-done (g.S.Meaning.state c.args.source).file (head c.in_ok-head.head) _ _ (c.in_ok-head.ensures.head t1) (rw f1 at (c.in_ok-list.ensures.list t2)) (rw (c.as_slice.ensures, f2, f1) at (c.in_ok-directory.ensures.bytes told)))

pub returns-clause-answer : goal.returns-clause-answer
returns-clause-answer g c = λ known.
    let f1 = c.in_ok-head.ensures.continues.file in
    let f2 = c.in_ok-list.ensures.continues.file in
    let k1 = c.in_ok-head.ensures.continues.known known in
    let k2 = c.in_ok-list.ensures.continues.known k1 in
    let k3 = c.in_ok-directory.ensures.continues.known k2 in
    opens-done _ _ (open-done (g.S.Meaning.state c.args.source).file (head c.in_ok-head.head) _ _ (c.in_ok-head.ensures.head k1.1) (rw f1 at (c.in_ok-list.ensures.list k2.1)) (rw (c.as_slice.ensures, f2, f1) at (c.in_ok-directory.ensures.bytes k3.1)))
