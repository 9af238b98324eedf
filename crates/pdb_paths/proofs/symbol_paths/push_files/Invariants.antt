use Rattle.std.proofs.Common.{◌≡◌, ◌++◌, map, take}
use Rattle.pdb_paths.specs.SymbolPaths.{files_in}
use Rattle.pdb_paths.proofs.symbol_paths.push_files.Given as goal

-- the paths of the names so far were put
abbrev pub invariant-loop-name : goal.invariant-loop-name
invariant-loop-name l = map (λ p. p.items) l.paths.items ≡ map (λ p. p.items) l.fn.paths.items ++ files_in l.folder (map (λ n. n.items) (take l.name-index l.names))
