use Rattle.std.proofs.Common.{sym, ◌∙◌}
use Rattle.pdb_resolve.proofs.Kepts.{code_stays}
use Rattle.pdb_resolve.proofs.modules.Modules.begun_name.Goals as goal

pub returns-in-Some-clause-codes : goal.returns-in-Some-clause-codes
returns-in-Some-clause-codes c =
    let there = c.if-number-len.false in
    let many = c.len.ensures in
    code_stays c.args.self.now.codes.items c.args.number _ c.in-Some.code _ (sym (c.index_mut.ensures.value) ∙ c.in-Some.is) (c.begun_name.ensures.stays ∙ c.deref_mut.ensures.value)
