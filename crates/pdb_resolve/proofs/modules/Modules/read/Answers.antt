use Rattle.std.proofs.Common.{◌≡◌, None, Some, sym, ap, ◌∙◌}
use Rattle.std.specs.Prelude.{option_copied}
use Rattle.pdb_resolve.proofs.Kepts.{none_numbered, one_numbered, none_copied, numbered_then, stays_then}
use Rattle.pdb_resolve.specs.FileParts.{module_numbered}
use Rattle.pdb_resolve.specs.KeptParts.{codes_of}
use Rattle.pdb_resolve.proofs.Continuing.{modules_on}
use Rattle.pdb_resolve.proofs.modules.Modules.read.Goals as goal

pub returns-in_default-module_at-clause-read : goal.returns-in_default-module_at-clause-read
returns-in_default-module_at-clause-read g c = λ told.
    sym c.code.ensures ∙ (none_copied c.code.result c.if-is_some.ensures
    ∙ sym (none_numbered _ _ c.requires told c.args.number (sym c.module_at.ensures ∙ ap option_copied c.in_default-module_at.is)))

pub returns-in-Some-2-clause-kept : goal.returns-in-Some-2-clause-kept
returns-in-Some-2-clause-kept g c =
    let continues = c.in_ok-info.ensures.continues in
    let are = modules_on _ _ _ continues c.requires in
    c.put_and_keep.ensures.kept _ are (sym c.stream.ensures ∙ ap option_copied c.in_default.is)
    (λ told. ap (λ file. module_numbered file c.args.number) continues.file ∙ (one_numbered _ _ c.requires (continues.told told) c.args.number c.in-Some-module_at.module.now (sym c.module_at.ensures ∙ ap option_copied c.in-Some-module_at.is) ∙ (sym (c.in_ok-info.ensures.is told) ∙ c.in-Some-2.is)))

pub returns-in-Some-2-clause-read : goal.returns-in-Some-2-clause-read
returns-in-Some-2-clause-read g c = λ told.
    let numbered = one_numbered _ _ c.requires (c.in_ok-info.ensures.continues.told told) c.args.number c.in-Some-module_at.module.now (sym c.module_at.ensures ∙ ap option_copied c.in-Some-module_at.is) in
    numbered_then _ c.put_and_keep.new.self c.args.number c.in-Some-2.info c.put_and_keep.result c.put_and_keep.ensures.read (numbered ∙ (sym (c.in_ok-info.ensures.is told) ∙ c.in-Some-2.is))

pub returns-in-None-clause-read : goal.returns-in-None-clause-read
returns-in-None-clause-read g c = λ told.
    let numbered = one_numbered _ _ c.requires (c.in_ok-info.ensures.continues.told told) c.args.number c.in-Some-module_at.module.now (sym c.module_at.ensures ∙ ap option_copied c.in-Some-module_at.is) in
    sym c.code.ensures ∙ (none_copied c.code.result c.if-is_some.ensures ∙ sym (numbered ∙ (sym (c.in_ok-info.ensures.is told) ∙ c.in-None.is)))

pub returns-in-Some-2-clause-once : goal.returns-in-Some-2-clause-once
returns-in-Some-2-clause-once g c = λ m e.
    let none = sym c.stream.ensures ∙ ap option_copied c.in_default.is in
    let both : None ≡ Some m = sym none ∙ e in
    absurd cc

pub returns-in-Some-clause-stays : goal.returns-in-Some-clause-stays
returns-in-Some-clause-stays g c =
    stays_then (codes_of c.args.self.now) (codes_of c.keep.new.self) c.args.number _ c.keep.result c.keep.ensures.kept c.keep.ensures.refused (sym c.code.ensures ∙ none_copied c.code.result c.if-is_some.ensures)

pub returns-in-Some-2-clause-stays : goal.returns-in-Some-2-clause-stays
returns-in-Some-2-clause-stays g c = c.put_and_keep.ensures.stays (sym c.code.ensures ∙ none_copied c.code.result c.if-is_some.ensures)
