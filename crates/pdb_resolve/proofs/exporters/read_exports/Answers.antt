use Rattle.std.proofs.Common.{sym, ap, ◌∙◌, nat_cmp}
use Rattle.std.specs.BTreeMap.{get}
use Rattle.pdb_resolve.specs.AcrossModules.{exports_where}
use Rattle.pdb_resolve.specs.FileParts.{module_numbered}
use Rattle.pdb_resolve.proofs.CrossingLaws.{exports_listed, kept_or_same, still_kept}
use Rattle.pdb_resolve.proofs.CrossingsGoOn.{exports_on}
use Rattle.pdb_resolve.proofs.exporters.read_exports.Goals as goal

pub returns-clause-kept : goal.returns-clause-kept
returns-clause-kept g c =
    let file = c.args.pdb.now.file in
    let later = c.exports_of.new.pdb.file in
    let on = exports_on c.args.pdb.now c.exports_of.new.pdb c.args.exports.now c.exports_of.ensures.continues c.requires.kept in
    λ told.
    kept_or_same (λ j. exports_where (module_numbered later j)) (get nat_cmp c.args.exports.now) (get nat_cmp c.keep.new.lists) c.args.number c.in_ok-read-2.read c.keep.result c.keep.ensures.kept c.keep.ensures.unchanged
    (c.in_ok-read-2.ensures.same ∙ (c.in_ok-read.ensures.exports told ∙ exports_listed file later c.args.listed.now c.args.number _ c.exports_of.ensures.continues.file (c.requires.listed (c.exports_of.ensures.continues.told told)) c.module_at.ensures))
    (on told)

pub returns-clause-stay : goal.returns-clause-stay
returns-clause-stay g c = still_kept (get nat_cmp c.args.exports.now) (get nat_cmp c.keep.new.lists) c.args.number c.in_ok-read-2.read c.keep.result c.keep.ensures.kept c.keep.ensures.unchanged
