use Rattle.std.proofs.Common.{sym, ap, ◌∙◌}
use Rattle.std.specs.Prelude.{option_copied}
use Rattle.pdb_resolve.proofs.WholeModules.{whole_absent, whole_read, whole_unread}
use Rattle.pdb_resolve.proofs.modules.Modules.is_whole.Goals as goal

pub returns-in-Some : goal.returns-in-Some
returns-in-Some c s ms told e = c.is_whole.ensures ∙ whole_read s.file _ _ (sym e ∙ (sym c.code.ensures ∙ ap option_copied c.in-Some.is))

pub returns-in-Some-module_at : goal.returns-in-Some-module_at
returns-in-Some-module_at c s ms told e =
    let none = sym c.code.ensures ∙ ap option_copied c.in_default.is in
    let listed = sym c.module_at.ensures ∙ ap option_copied c.in-Some-module_at.is in
    c.has_no_stream.ensures ∙ whole_unread s.file c.args.number _ (sym e ∙ none) (rw (ms.listed told) at listed)

pub returns-in-None : goal.returns-in-None
returns-in-None c s ms told e = whole_absent s.file c.args.number (rw (ms.listed told) at (sym c.module_at.ensures ∙ ap option_copied c.in-None.is))
