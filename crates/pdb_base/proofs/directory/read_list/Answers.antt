use Rattle.std.proofs.Common.{◌*◌, sym, ◌∙◌, arith, ap, refl, length}
use Rattle.std.specs.Int.{div_ceil}
use Rattle.std.proofs.lemmas.Result.{err_from_is_err_and}
use Rattle.pdb_base.specs.Source.{view_bytes}
use Rattle.pdb_base.specs.Heads.{head}
use Rattle.pdb_base.proofs.Passing.{gives_weaken, may_after}
use Rattle.pdb_base.proofs.HeadLemmas.{list-past, list_fails, list_is, ceil_small}
use Rattle.pdb_base.proofs.directory.read_list.Goals as goal

pub returns-then-count-h-clause-list : goal.returns-then-count-h-clause-list
returns-then-count-h-clause-list g c = λ told.
    let e = sym (c.div_ceil-count.ensures ∙ ap (λ x. div_ceil (4 * x) c.args.h.page_size) c.div_ceil.ensures) in
    list-past (g.S.Meaning.state c.args.source.now).file (head c.args.h) c.div_ceil-count.result e c.if-count-h.true

pub returns-in_err-numbers-clause-list : goal.returns-in_err-numbers-clause-list
returns-in_err-numbers-clause-list g c = λ told.
    let e = sym (c.div_ceil-count.ensures ∙ ap (λ x. div_ceil (4 * x) c.args.h.page_size) c.div_ceil.ensures) in
    let p = err_from_is_err_and c.from_residual.result c.from_residual.ensures.1 in
    rw (p.1, p.2) (list_fails _ _ c.in_err-numbers.field-0.0 (g.S.Meaning.state c.args.source.now).file (head c.args.h) c.div_ceil-count.result e (λ x. x) (c.in_err-numbers.ensures.bytes told))

pub view_pages-requires : goal.view_pages-requires
view_pages-requires g c κs =
    let e = c.div_ceil-count.ensures ∙ ap (λ x. div_ceil (4 * x) c.args.h.page_size) c.div_ceil.ensures in
    let small = ceil_small c.args.h.directory_size c.args.h.page_size c.requires.size.0 (omega arith) in
    ((refl, tt), (omega (arith, c.requires.size.0), (omega (arith, c.div_ceil.ensures), omega (arith, e, c.div_ceil-count.ensures, c.as_slice.ensures, c.in_ok-numbers.ensures.sized, ap length c.as_slice.ensures))))

pub returns-clause-list : goal.returns-clause-list
returns-clause-list g c = λ told.
    let e = c.div_ceil-count.ensures ∙ ap (λ x. div_ceil (4 * x) c.args.h.page_size) c.div_ceil.ensures in
    let w = list_is (g.S.Meaning.state c.args.source.now).file (head c.args.h) _ (omega (arith, e)) (rw e at (c.in_ok-numbers.ensures.bytes (c.view_pages.ensures.continues.told told))) in
    rw w.0 (gives_weaken view_bytes _ _ c.view_pages.result _ (may_after _ _ _ c.in_ok-numbers.ensures.continues)
    (rw (c.in_ok-numbers.ensures.continues.file, c.as_slice.ensures, c.div_ceil.ensures) at (c.view_pages.ensures.bytes told)))
