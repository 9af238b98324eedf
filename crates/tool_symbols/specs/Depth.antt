-- How deep symbols stand in scopes.
use Rattle.std.specs.Prelude.{ℕ, zero, suc, ◌+◌, ◌-◌, List, [], ◌++◌, codes, if◌then◌else◌, min}
use Rattle.pdb.specs.Scopes.{starts_of, ends_of}

-- two blanks so many times
abbrev pub blanks_of : ℕ → List ℕ
blanks_of zero = []
blanks_of (suc times) = codes "  " ++ blanks_of times

-- two blanks for each depth, and no more than 64
abbrev pub blanks : ℕ → List ℕ
blanks depth = blanks_of (min depth 32)

-- the depth of a record of a kind, behind records that leave this depth: one less where it ends a scope
abbrev pub depth_at : ℕ → ℕ → ℕ
depth_at depth kind = if ends_of kind then depth - 1 else depth

-- the depth that it leaves: one more where it starts a scope
abbrev pub depth_behind : ℕ → ℕ → ℕ
depth_behind depth kind = if starts_of kind then depth_at depth kind + 1 else depth_at depth kind
