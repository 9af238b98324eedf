use Rattle.std.proofs.Common.{sym, arith, ◌∙◌}
use Rattle.std.specs.Option.{option_map}
use Rattle.pdb_types.specs.TypeReading.{shown_type}
use Rattle.pdb_types.proofs.WrapperSteps.{shape_step}
use Rattle.pdb_types.proofs.shapes.+shapes.Goals as goal

pub shape_of-returns-clause-said : goal.shape_of-returns-clause-said
shape_of-returns-clause-said t c = λ first.
    let high = c.if-index-lt4096.false in
    let deep = c.if-depth-eq0.false in
    c.shape_by.ensures.said first ∙ sym (shape_step c.args.types.now first c.args.depth c.args.index (option_map shown_type c.visit_wrapper-says.result) (omega (arith, high)) (omega (arith, deep)) c.visit_wrapper-says.ensures.said)
