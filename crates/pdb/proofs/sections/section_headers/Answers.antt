use Rattle.std.proofs.Common.{◌≢◌, ◌<◌, ◌∙◌, ap, Ok, length, arith, refl, append-nil}
use Rattle.std.proofs.lemmas.Result.{err_from_is_err_and}
use Rattle.pdb_base.specs.SectionHeader.{headers_of}
use Rattle.pdb_base.proofs.Passing.{refused_fails}
use Rattle.pdb.proofs.Headers.{from_start, nothing_before, one_header, no_header, last_header, header_moves}
use Rattle.pdb.proofs.sections.section_headers.Goals as goal

pub loop-buffer-init : goal.loop-buffer-init
loop-buffer-init c = rw (c.from-buffer.ensures, c.new-headers.ensures.items) (record {
  inside = omega arith;
  told = from_start c.args.bytes.now ∙ nothing_before _;
})

pub returns-in_err-header : goal.returns-in_err-header
returns-in_err-header c =
    let p = err_from_is_err_and c.from_residual.result c.from_residual.ensures.1 in
    let left : c.loop-buffer.buffer.place ≢ length c.loop-buffer.buffer.bytes = λ e. (let f = c.loop-buffer-test.ensures.1 e in cc) in
    let before : c.loop-buffer.buffer.place < length c.loop-buffer.buffer.bytes = omega (arith, c.loop-buffer.invariant.inside) in
    let refused = c.loop-buffer.invariant.told ∙ no_header c.loop-buffer.headers.items c.loop-buffer.buffer c.parse.new.buffer _ before c.in_err-header.ensures in
    rw (p.1, p.2) (refused_fails _ _ (headers_of c.args.bytes.now) refused c.in_err-header.ensures.3)

pub loop-buffer-preserved : goal.loop-buffer-preserved
loop-buffer-preserved c = record {
  inside = (header_moves c.loop-buffer.buffer c.parse.new.buffer _ c.in_ok-header.ensures).1;
  told = rw c.in_ok-push.ensures.items (c.loop-buffer.invariant.told ∙ one_header c.loop-buffer.headers.items c.loop-buffer.buffer c.parse.new.buffer _ c.in_ok-header.ensures);
}

pub returns : goal.returns
returns c =
    c.loop-buffer.invariant.told
    ∙ last_header c.loop-buffer.headers.items c.loop-buffer.buffer.bytes c.loop-buffer.buffer.place (omega (arith, c.loop-buffer-test.ensures.0 refl))
    ∙ ap Ok (append-nil c.loop-buffer.headers.items)
