use Rattle.std.proofs.Common.{ℕ, ◌≡◌, ◌++◌, [], ◌∷◌, List, ap, sym, refl, ◌∙◌, arith}
use Rattle.std.proofs.lemmas.List.FromFn.{map-range_with_len_more}
use Rattle.pdb_modules.specs.CrossModule.{export_in}
use Rattle.pdb_modules.proofs.exports.read_pairs.Goals as goal

pub loop-i-preserved : goal.loop-i-preserved
loop-i-preserved c =
    let pair : (c.u32_at.result, c.u32_at-in-loop-i.result) ≡ export_in c.args.part.now c.loop-i.i = rw (c.u32_at.ensures, c.u32_at-in-loop-i.ensures) refl in
    c.in_ok-push_pair.ensures.pushed
    ∙ (ap (λ (x : ℕ × ℕ). c.loop-i.pairs.items ++ x ∷ []) pair
    ∙ (ap (λ (xs : List (ℕ × ℕ)). xs ++ export_in c.args.part.now c.loop-i.i ∷ []) c.loop-i.invariant
    ∙ sym (map-range_with_len_more (export_in c.args.part.now) 0 c.loop-i.i c.loop-i.i (omega arith))))
