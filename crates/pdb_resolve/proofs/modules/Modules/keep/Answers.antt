use Rattle.std.proofs.Common.{arith, ◌∙◌}
use Rattle.std.proofs.lemmas.List.{length-map}
use Rattle.pdb_resolve.specs.KeptParts.{boxed}
use Rattle.pdb_resolve.proofs.Kepts.{code_set}
use Rattle.pdb_resolve.proofs.modules.Modules.keep.Goals as goal

pub returns-clause-kept : goal.returns-clause-kept
returns-clause-kept c =
    let n = length-map c.args.self.now.codes.items boxed in
    let l = c.len.ensures in
    let i = c.if-number-len.false in
    (omega arith, code_set c.args.self.now.codes.items c.args.number c.in_ok-code.code c.args.info.now (c.in_ok-code.ensures.ok ∙ c.in_ok-new.ensures.is))
