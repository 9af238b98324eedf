use Rattle.std.proofs.Common.{◌≡◌, List, map, take}
use Rattle.std.specs.Prelude.{option_copied}
use Rattle.pdb_modules.specs.ImportViews.{module_of}
use Rattle.pdb_resolve.specs.Exporters.{exporter}
use Rattle.pdb_resolve.proofs.exporters.exporters_of.Given as goal

-- the numbers of the modules so far
abbrev pub invariant-loop-imported : goal.invariant-loop-imported
invariant-loop-imported l = l.exporters.items ≡ map (exporter (option_copied l.fn.strings) l.listed) (map module_of (take l.imported-index l.modules))
