-- What the lists that were read show.
use Rattle.std.specs.Prelude.{ℕ, List, take}
use Rattle.pdb_types.specs.declared.read_lists.ReadLists.{ReadLists}

-- the indices of the lists that were read, in their order
abbrev pub lists_read : ReadLists → List ℕ
lists_read r = take r.count r.indices
