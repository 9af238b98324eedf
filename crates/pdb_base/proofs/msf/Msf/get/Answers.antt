use Rattle.std.proofs.Common.{sym, ◌∙◌, ap, Ok}
use Rattle.std.proofs.lemmas.Result.{err_from_is_err_and}
use Rattle.pdb_base.proofs.OpenLemmas.{get-size_fails, get-pages_fails, get-is, needed-there}
use Rattle.pdb_base.proofs.msf.Msf.get.Goals as goal

pub returns-in_err-size-clause-bytes : goal.returns-in_err-size-clause-bytes
returns-in_err-size-clause-bytes g c = λ told.
    let p = err_from_is_err_and c.from_residual.result c.from_residual.ensures.1 in
    let opened = rw c.self.view_is at ((c.self.invariant.0 (rw c.self.view_is told)).opened) in
    rw (p.1, p.2) (get-size_fails _ _ c.in_err-size.field-0.0 c.args.self.now.file _ c.args.number c.args.limit opened (λ x. absurd x) (rw c.as_slice-directory.ensures at c.in_err-size.ensures.size))

pub returns-in_err-list-clause-bytes : goal.returns-in_err-list-clause-bytes
returns-in_err-list-clause-bytes g c = λ told.
    let p = err_from_is_err_and c.from_residual-in_err-list.result c.from_residual-in_err-list.ensures.1 in
    let opened = rw c.self.view_is at ((c.self.invariant.0 (rw c.self.view_is told)).opened) in
    let size = rw c.as_slice-directory.ensures at c.in_ok-size.ensures.size in
    rw (p.1, p.2) (get-pages_fails _ _ c.in_err-list.field-0.0 c.args.self.now.file _ c.args.number c.in_ok-size.size c.limited-size.result c.args.limit opened size c.limited-size.ensures (λ x. absurd x) (rw c.as_slice-directory.ensures at c.in_err-list.ensures.pages))

pub returns-in_err-view-clause-bytes : goal.returns-in_err-view-clause-bytes
returns-in_err-view-clause-bytes g c = λ told.
    let p = err_from_is_err_and c.from_residual-in_err-view.result c.from_residual-in_err-view.ensures.1 in
    let opened = rw c.self.view_is at ((c.self.invariant.0 (c.in_err-view.ensures.continues.told (told))).opened) in
    let size = rw c.as_slice-directory.ensures at c.in_ok-size.ensures.size in
    let pages = rw c.as_slice-directory.ensures at c.in_ok-list.ensures.pages in
    let is = get-is c.args.self.now.file _ c.args.number c.in_ok-size.size c.limited-size.result c.args.limit _ opened size c.limited-size.ensures pages in
    rw (p.1, p.2, is) (rw c.self.view_is at (c.in_err-view.ensures.bytes told))

pub returns-in_err-view-clause-memory : goal.returns-in_err-view-clause-memory
returns-in_err-view-clause-memory g c told h =
    let opened = rw c.self.view_is at ((c.self.invariant.0 (c.in_err-view.ensures.continues.told (told))).opened) in
    let size = rw c.as_slice-directory.ensures at c.in_ok-size.ensures.size in
    let pages = rw c.as_slice-directory.ensures at c.in_ok-list.ensures.pages in
    needed-there c.args.self.now.file _ c.args.number c.in_ok-size.size c.limited-size.result c.args.limit _ opened size c.limited-size.ensures pages

pub returns-in_err-of-clause-memory : goal.returns-in_err-of-clause-memory
returns-in_err-of-clause-memory g c told h =
    let opened = rw c.self.view_is at ((c.self.invariant.0 (c.in_ok-view.ensures.continues.told (told))).opened) in
    let size = rw c.as_slice-directory.ensures at c.in_ok-size.ensures.size in
    let pages = rw c.as_slice-directory.ensures at c.in_ok-list.ensures.pages in
    needed-there c.args.self.now.file _ c.args.number c.in_ok-size.size c.limited-size.result c.args.limit _ opened size c.limited-size.ensures pages

pub returns-clause-bytes : goal.returns-clause-bytes
returns-clause-bytes g c = λ told.
    let opened = rw c.self.view_is at ((c.self.invariant.0 (c.in_ok-view.ensures.continues.told (told))).opened) in
    let size = rw c.as_slice-directory.ensures at c.in_ok-size.ensures.size in
    let pages = rw c.as_slice-directory.ensures at c.in_ok-list.ensures.pages in
    let is = get-is c.args.self.now.file _ c.args.number c.in_ok-size.size c.limited-size.result c.args.limit _ opened size c.limited-size.ensures pages in
    is ∙ (rw c.self.view_is at (c.in_ok-view.ensures.bytes told)) ∙ ap Ok (sym c.in_ok-of.ensures)
