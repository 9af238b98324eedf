use Rattle.std.proofs.Common.{take}
use Rattle.std.specs.List.{All}
use Rattle.std.specs.Prelude.{option_copied}
use Rattle.pdb_modules.specs.ImportViews.{module_of}
use Rattle.pdb_resolve.specs.Exporters.{HasName}
use Rattle.pdb_resolve.proofs.exporters.names_of.Given as goal

-- the names of the modules so far are there
abbrev pub invariant-loop-imported : goal.invariant-loop-imported
invariant-loop-imported l = All (λ x. HasName (option_copied l.fn.strings) l.names (module_of x)) (take l.imported-index l.modules)
