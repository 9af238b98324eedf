use Rattle.std.proofs.Common.{◌≡◌, ◌∙◌, sym, true, length, arith}
use Rattle.pdb_dbi.specs.Features.{has_id_code, is_id_code}
use Rattle.pdb_dbi.proofs.IdCodes.{found}
use Rattle.pdb_dbi.proofs.features.has_id_code.Goals as goal

-- src/features.rt:29:13
pub returns-then-is_id_code : goal.returns-then-is_id_code
returns-then-is_id_code c =
    let s = c.in-Some.ensures.steps in
    let four : length c.in-Some.code.now ≡ 4 = s.1.1 ∙ c.loop-code.invariant.four in
    let code : is_id_code c.u32_at.result ≡ true = sym c.is_id_code.ensures ∙ c.if-is_id_code.true in
    let all : has_id_code c.loop-code.code-iterator.rest.now ≡ true = found _ c.in-Some.code.now _ c.u32_at.result s.1.0 four c.u32_at.ensures code in
    rw all at c.loop-code.invariant.searching
