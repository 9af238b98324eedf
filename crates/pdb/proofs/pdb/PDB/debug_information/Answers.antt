use Rattle.std.proofs.lemmas.Result.{err_from_is_err_and}
use Rattle.pdb.proofs.Kept.{kept_header, information_refused}
use Rattle.pdb.proofs.pdb.PDB.debug_information.Goals as goal

pub returns-in_err-information-clause-answer : goal.returns-in_err-information-clause-answer
returns-in_err-information-clause-answer g c = λ told.
    let p = err_from_is_err_and c.from_residual-in_err-information.result c.from_residual-in_err-information.ensures.1 in
    rw (p.1, p.2) (information_refused _ c.in_err-information.field-0.0 c.args.self.now.file c.in_ok-stream.stream (c.in_ok-stream.ensures.stream told) c.in_err-information.ensures.0)

pub invariant_of-self : goal.invariant_of-self
invariant_of-self g c = λ told.
    let kept = c.self.invariant told in
    rw c.self.view_is (record {
      debug_stream = rw c.self.view_is at kept.debug_stream;
      header = kept_header _ c.args.self.now.file c.in_ok-stream.stream c.in_ok-information.information c.header.result c.in_ok-stream.ensures.continues.file (c.in_ok-stream.ensures.stream (rw c.self.view_is at told)) c.in_ok-information.ensures c.header.ensures;
      extra_streams = rw c.self.view_is at kept.extra_streams;
    })
