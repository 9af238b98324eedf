use Rattle.std.proofs.Common.{ap, sym, ◌∙◌}
use Rattle.std.specs.Prelude.{option_copied}
use Rattle.pdb_resolve.proofs.Asking.{told}
use Rattle.pdb_resolve.proofs.ImportLaws.{exports_known}
use Rattle.pdb_resolve.proofs.across_modules.exports_of.Goals as goal

pub returns-in-Some-2-clause-exports : goal.returns-in-Some-2-clause-exports
returns-in-Some-2-clause-exports g c = λ t.
    exports_known c.args.pdb.now.file _ _ c.in-Some-2.info _ c.read_or.result (ap option_copied c.in-Some.is) (sym (c.in_ok-info.ensures.is t) ∙ c.in-Some-2.is) c.empty-in-Some-2.ensures (c.read_or.ensures.is _ (told _ _ _ _ c.exports.ensures.exports))
