use Rattle.std.proofs.Common.{◌≡◌, true, false, vec_capacity}
use Rattle.pdb_names.proofs.Joining.{nothing_joined}
use Rattle.pdb_names.proofs.pieces.joined.Goals as goal

pub returns-in_err-put_text-clause-lean : goal.returns-in_err-put_text-clause-lean
returns-in_err-put_text-clause-lean c = λ none.
    let few = nothing_joined (λ v. v.items) c.args.mark.now c.args.texts.now c.loop-i.i (vec_capacity c.loop-i.name) c.index-texts-i.result c.loop-i-test.true c.index-texts-i.is none in
    let wrong : false ≡ true = c.in_err-put_text.ensures.fits (rw (c.loop-i.invariant, c.deref.ensures.value) few) in
    absurd (cc)
