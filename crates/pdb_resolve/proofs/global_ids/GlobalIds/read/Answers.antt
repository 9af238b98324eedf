use Rattle.pdb.specs.ModuleStream.{imports_of}
use Rattle.pdb_resolve.specs.FileParts.{modules_listed}
use Rattle.pdb_resolve.proofs.Asking.{told}
use Rattle.pdb_resolve.proofs.ImportLaws.{ids_are}
use Rattle.pdb_resolve.proofs.global_ids.GlobalIds.read.Goals as goal

pub returns-clause-ids : goal.returns-clause-ids
unfolding modules_listed
returns-clause-ids g c = λ t. ids_are c.args.pdb.now.file _ _ c.args.info.now _ (rw c.empty.ensures at (c.in_ok-imports.ensures.is (imports_of c.args.info.now) (told _ _ _ _ c.imports.ensures.imports))) (c.in_ok-exporters.ensures.exports t)
