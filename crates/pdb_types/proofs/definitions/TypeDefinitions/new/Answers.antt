use Rattle.std.proofs.Common.{List, ap, ◌∙◌}
use Rattle.std.proofs.Math.Path.{fun_ext}
use Rattle.pdb_types.specs.FullTypes.{TypeDefinition, first_definition}
use Rattle.pdb_types.proofs.definitions.TypeDefinitions.new.Goals as goal

pub returns : goal.returns
returns c = fun_ext (λ key. c.in_ok-sort.ensures.first key ∙ ap (λ (l : List TypeDefinition). first_definition l key) c.in_ok-sorted.ensures.all)
