-- The full definitions among the types of a stream.
use Rattle.std.specs.Prelude.{ℕ, List, Option, Result, Ok}
use Rattle.pdb_base.specs.declared.error.Error.{Error}
use Rattle.pdb_base.specs.Refusal.{◌>>=◌}
use Rattle.pdb_items.specs.Items.{known_items_in}
use Rattle.pdb_types.specs.FullTypes.{definitions_among, first_definition}

-- the index of the first definition of each key, among the types of a stream up to its first error
unfoldable pub definitions_in : List ℕ → Result (List ℕ → Option ℕ) Error
definitions_in stream = known_items_in stream >>= λ items. Ok (first_definition (definitions_among items))
