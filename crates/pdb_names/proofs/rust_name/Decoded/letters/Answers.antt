use Rattle.std.proofs.Common.{◌∙◌, sym}
use Rattle.pdb_names.specs.RustNames.{is_read, letter}
use Rattle.pdb_names.proofs.Runs.{run_end, run_passed}
use Rattle.pdb_names.proofs.rust_name.Decoded.letters.Goals as goal

pub returns-in_err-letter : goal.returns-in_err-letter
returns-in_err-letter c = run_passed is_read letter _ _ _ _ _ _ _ c.loop-self.invariant (sym c.is_empty.ensures ∙ c.loop-self-test.true) c.in_err-letter.ensures.said c.from_residual.ensures.1

pub returns : goal.returns
returns c = run_end is_read letter _ _ _ _ c.loop-self.invariant (sym c.is_empty.ensures ∙ c.loop-self-test.false)
