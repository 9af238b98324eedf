-- What the table of definitions shows.
use Rattle.std.specs.Prelude.{ℕ, Bool, List, ◌∷◌}
use Rattle.std.specs.Ordering.{is_lt, nat_cmp}
use Rattle.std.specs.Cmp.Lexicographic.{slice_cmp}
use Rattle.pdb_base.specs.declared.index.TypeIndex.{TypeIndex}
use Rattle.pdb_types.specs.declared.definitions.Definition.{Definition}
use Rattle.pdb_types.specs.declared.definitions.TagKey.{TagKey}
use Rattle.pdb_types.specs.FullTypes.{TypeDefinition}

abbrev pub key_list : TagKey → List ℕ
key_list k = k.kind ∷ k.unique ∷ k.name.now

abbrev pub shown_definition : Definition → TypeDefinition
shown_definition d = record { key = key_list d.key; index = d.index }

-- in the order of the keys
abbrev pub goes_before : Definition → Definition → Bool
goes_before a b = is_lt (slice_cmp nat_cmp (key_list a.key) (key_list b.key))

abbrev pub type_number : TypeIndex → ℕ
type_number i = i.0
