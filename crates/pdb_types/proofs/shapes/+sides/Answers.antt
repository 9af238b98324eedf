use Rattle.std.proofs.Common.{sym, arith, ◌∙◌}
use Rattle.std.specs.Option.{option_map}
use Rattle.pdb_types.specs.TypeReading.{shown_type}
use Rattle.pdb_types.proofs.WrapperSteps.{side_step}
use Rattle.pdb_types.proofs.shapes.+sides.Goals as goal

pub is_right-returns-clause-said : goal.is_right-returns-clause-said
is_right-returns-clause-said t c = λ first.
    let high = c.if-index-lt4096.false in
    let deep = c.if-depth-eq0.false in
    c.is_right_by.ensures.said first ∙ sym (side_step c.args.types.now first c.args.depth c.args.index (option_map shown_type c.visit_wrapper-says.result) (omega (arith, high)) (omega (arith, deep)) c.visit_wrapper-says.ensures.said)
