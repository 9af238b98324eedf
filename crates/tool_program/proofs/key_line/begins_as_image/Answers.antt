use Rattle.std.proofs.Common.{ap, sym, ◌∙◌, Ok, true≢false}
use Rattle.pdb_image.specs.Headers.{is_image}
use Rattle.tool_program.proofs.ImageFronts.{front_of, fails_still}
use Rattle.tool_program.proofs.key_line.begins_as_image.Goals as goal

pub returns-in-Ok-clause-image : goal.returns-in-Ok-clause-image
returns-in-Ok-clause-image g c = λ told.
    ap Ok (sym (c.is_image.ensures ∙ ap is_image c.as_slice.ensures ∙ front_of _ _ (c.in-Ok.ensures.bytes told)))

pub returns-in-Err-2-clause-image : goal.returns-in-Err-2-clause-image
returns-in-Err-2-clause-image g c = λ told.
    fails_still _ _ c.in-Err.e _ (λ same. true≢false (sym (c.is_end.ensures.1 same) ∙ c.if-is_end.false)) (c.in-Err.ensures.bytes told)
