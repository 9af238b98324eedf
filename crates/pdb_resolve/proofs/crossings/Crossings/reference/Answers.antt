use Rattle.std.proofs.Common.{ap, sym, ◌∙◌}
use Rattle.std.specs.Prelude.{option_copied}
use Rattle.pdb_resolve.specs.KeptCrossings.{imports_where}
use Rattle.pdb_resolve.proofs.CrossingLaws.{reference_by}
use Rattle.pdb_resolve.proofs.crossings.Crossings.reference.Goals as goal

pub returns : goal.returns
returns c = λ s m are told is some.
    let l = c.in_ok-get.field-0.now in
    c.reference_to.ensures ∙ reference_by m c.args.id.0 l (are.imports told c.args.number l (sym c.get.ensures.value ∙ ap option_copied c.in_ok-get.was) ∙ ap imports_where is)
