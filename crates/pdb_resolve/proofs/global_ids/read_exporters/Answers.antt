use Rattle.std.proofs.Common.{map}
use Rattle.std.specs.Prelude.{option_copied}
use Rattle.pdb_modules.specs.ImportViews.{module_of}
use Rattle.pdb_resolve.proofs.ExporterLaws.{exporters_are}
use Rattle.pdb_resolve.proofs.global_ids.read_exporters.Goals as goal

pub returns-clause-exports : goal.returns-clause-exports
returns-clause-exports g c = λ told.
    let on = c.read_all_exports.ensures.continues in
    exporters_are c.args.pdb.now.file c.read_all_exports.new.pdb.file c.in_ok-exports.exports (option_copied c.args.strings) c.args.listed.now (map module_of c.args.modules.now) c.in_ok-numbers.numbers.items on.file (c.requires (on.told told)) (c.in_ok-exports.ensures.kept told) c.in_ok-numbers.ensures.numbers (rw c.deref.ensures.value at c.in_ok-exports.ensures.read)
