use Rattle.std.proofs.Common.{◌∙◌, sym}
use Rattle.pdb_names.specs.Templates.{is_end, one_argument, one_more, typ}
use Rattle.pdb_names.proofs.Runs.{run_end, run_passed}
use Rattle.pdb_names.proofs.+templates.Goals as goal

pub reader::Reader::all_arguments-returns-in_err-one_argument-clause-said : goal.reader::Reader::all_arguments-returns-in_err-one_argument-clause-said
reader::Reader::all_arguments-returns-in_err-one_argument-clause-said t c = run_passed is_end (one_argument (typ c.args.levels)) _ _ _ _ _ _ _ c.loop-alloc.invariant.0 (sym c.starts_with.ensures.value ∙ c.loop-alloc-test.true) c.in_err-one_argument.ensures.said c.from_residual.ensures.1

pub reader::Reader::all_arguments-returns-clause-said : goal.reader::Reader::all_arguments-returns-clause-said
reader::Reader::all_arguments-returns-clause-said t c = run_end is_end (one_argument (typ c.args.levels)) _ _ _ _ c.loop-alloc.invariant.0 (sym c.starts_with.ensures.value ∙ c.loop-alloc-test.false)

pub reader::Reader::all_components-returns-in_err-one_more-clause-said : goal.reader::Reader::all_components-returns-in_err-one_more-clause-said
reader::Reader::all_components-returns-in_err-one_more-clause-said t c = run_passed is_end (one_more (typ c.args.levels)) _ _ _ _ _ _ _ c.loop-alloc.invariant.0 (sym c.starts_with.ensures.value ∙ c.loop-alloc-test.true) c.in_err-one_more.ensures.said c.from_residual.ensures.1

pub reader::Reader::all_components-returns-clause-said : goal.reader::Reader::all_components-returns-clause-said
reader::Reader::all_components-returns-clause-said t c = run_end is_end (one_more (typ c.args.levels)) _ _ _ _ c.loop-alloc.invariant.0 (sym c.starts_with.ensures.value ∙ c.loop-alloc-test.false)
