use Rattle.std.proofs.Common.{◌∙◌, sym}
use Rattle.pdb_names.specs.ItaniumNames.{is_end, part}
use Rattle.pdb_names.proofs.Runs.{run_end, run_passed}
use Rattle.pdb_names.proofs.itanium_name.Parts.all_parts.Goals as goal

pub returns-in_err-part-clause-said : goal.returns-in_err-part-clause-said
returns-in_err-part-clause-said c = run_passed is_end part _ _ _ _ _ _ _ c.loop-alloc.invariant (sym c.starts_with.ensures.value ∙ c.loop-alloc-test.true) c.in_err-part.ensures.said c.from_residual.ensures.1

pub returns-clause-said : goal.returns-clause-said
returns-clause-said c = run_end is_end part _ _ _ _ c.loop-alloc.invariant (sym c.starts_with.ensures.value ∙ c.loop-alloc-test.false)
