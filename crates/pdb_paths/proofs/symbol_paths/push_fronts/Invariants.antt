use Rattle.std.proofs.Common.{◌≡◌, ◌++◌, map, take, true}
use Rattle.pdb_paths.specs.SymbolPaths.{fronts_in}
use Rattle.pdb_paths.proofs.symbol_paths.push_fronts.Given as goal

-- the paths of the names so far were put
abbrev pub invariant-loop-name : goal.invariant-loop-name
invariant-loop-name l = map (λ p. p.items) l.paths.items ≡ map (λ p. p.items) l.fn.paths.items ++ fronts_in true l.folder (map (λ n. n.items) (take l.name-index l.names)) (map (λ k. k.items) l.keys)
