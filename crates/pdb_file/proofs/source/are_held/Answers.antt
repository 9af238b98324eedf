use Rattle.std.proofs.Common.{◌∙◌, refl, sym, true≢false, arith}
use Rattle.std.proofs.lemmas.List.Elements.{All-more}
use Rattle.pdb_file.specs.HeldBytes.{IsAllHeld}
use Rattle.pdb_file.proofs.Groups.{all_taken}
use Rattle.pdb_file.proofs.source.are_held.Goals as goal

-- one that isn't held
pub returns-then-not-is_all_held : goal.returns-then-not-is_all_held
returns-then-not-is_all_held c = (λ h. absurd (true≢false (sym h)), λ all. sym c.if-not-is_all_held.true ∙ c.is_all_held.ensures.1 (all c.loop-slice.slice-index _ c.loop-slice-test.true))

pub loop-slice-preserved : goal.loop-slice-preserved
loop-slice-preserved c = All-more (IsAllHeld c.args.held.now) c.args.slices.now c.loop-slice.slice-index _ c.loop-slice-test.true c.loop-slice.invariant (c.is_all_held.ensures.0 c.if-not-is_all_held.false)

pub returns : goal.returns
returns c = (λ h. all_taken (IsAllHeld c.args.held.now) c.loop-slice.slice-index c.args.slices.now c.args.slices.now (omega (arith, c.loop-slice-test.false)) refl c.loop-slice.invariant, λ all. refl)
