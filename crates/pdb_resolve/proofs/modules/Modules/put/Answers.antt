use Rattle.std.proofs.Common.{map, ap, arith, ◌∙◌}
use Rattle.std.specs.Prelude.{option_copied}
use Rattle.std.proofs.lemmas.List.{length-map}
use Rattle.pdb_resolve.proofs.Kepts.{info_set}
use Rattle.pdb_resolve.proofs.modules.Modules.put.Goals as goal

pub returns-clause-put : goal.returns-clause-put
returns-clause-put c =
    let n = length-map c.args.self.now.infos.items option_copied in
    let l = c.len.ensures in
    let i = c.if-number-len.false in
    (omega arith, ap (map option_copied) c.set.ensures ∙ info_set c.args.self.now.infos.items c.args.number c.deref-info.result c.args.info (c.deref-info.ensures ∙ (ap (λ b. b.value) c.in_ok-put_down.ensures.put ∙ c.in_ok-new.ensures.ok)))
