use Rattle.std.proofs.Common.{◌≡◌, ◌++◌, map, take}
use Rattle.pdb_paths.specs.SymbolPaths.{keyed}
use Rattle.pdb_paths.proofs.symbol_paths.push_keyed.Given as goal

-- the paths under the keys so far were put
abbrev pub invariant-loop-key : goal.invariant-loop-key
invariant-loop-key l = map (λ p. p.items) l.paths.items ≡ map (λ p. p.items) l.fn.paths.items ++ keyed l.folder (map (λ k. k.items) (take l.key-index l.keys)) l.name
