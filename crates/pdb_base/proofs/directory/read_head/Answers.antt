use Rattle.std.proofs.Common.{◌≤◌, ◌∙◌, arith, ap, length}
use Rattle.pdb_base.specs.Container.{head_of}
use Rattle.pdb_base.specs.Heads.{head}
use Rattle.pdb_base.proofs.Passing.{gives_weaken}
use Rattle.pdb_base.proofs.HeadLemmas.{one_ok, front_fails, head-front}
use Rattle.pdb_base.proofs.directory.read_head.Goals as goal

pub returns-in-Err-clause-head : goal.returns-in-Err-clause-head
returns-in-Err-clause-head g c = λ told. rw c.format_error.ensures (front_fails _ c.in-Err.e (g.S.Meaning.state c.args.source.now).file (c.in-Err.ensures.bytes told))

pub parse_head-requires : goal.parse_head-requires
parse_head-requires g c =
    ap length c.as_slice.ensures ∙ c.in-Ok.ensures.sized

pub returns-clause-head : goal.returns-clause-head
returns-clause-head g c = λ told.
    let file = (g.S.Meaning.state c.args.source.now).file in
    let w = one_ok file 0 52 _ (c.in-Ok.ensures.bytes told) in
    let le : 52 ≤ length file = omega (arith, w.0) in
    let e = ap head_of (c.as_slice.ensures ∙ w.1) ∙ head-front file le in
    gives_weaken head ⊥ _ c.parse_head.result (head_of file) (λ x. absurd x) (rw e at c.parse_head.ensures.head)
