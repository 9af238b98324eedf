use Rattle.std.proofs.Common.{◌≡◌, ◌+◌, ◌*◌, ◌<◌, ◌≤◌, length, take}
use Rattle.std.specs.List.{flat_map}
use Rattle.pdb_types.specs.Cuts.{IsCut}
use Rattle.pdb_types.specs.FullTypes.{first_definition}
use Rattle.pdb_types.specs.TypeReading.{arguments_of}
use Rattle.pdb_types.specs.TypeTexts.{name_in, parts, with_comma}
use Rattle.pdb_types.specs.Visits.{Bounded, Paid}
use Rattle.pdb_types.proofs.+pieces.Given as goal

abbrev pub decreases-fronts::put_front : goal.decreases-fronts::put_front
decreases-fronts::put_front l = 16 * l.depth + 0

abbrev pub decreases-backs::put_back : goal.decreases-backs::put_back
decreases-backs::put_back l = 16 * l.depth + 0

abbrev pub decreases-backs::put_pointer_back : goal.decreases-backs::put_pointer_back
decreases-backs::put_pointer_back l = 16 * l.depth + 0

abbrev pub decreases-names::put_name_at : goal.decreases-names::put_name_at
decreases-names::put_name_at l = 16 * l.depth + 1

abbrev pub decreases-names::put_last : goal.decreases-names::put_last
decreases-names::put_last l = 16 * l.depth + 2

abbrev pub decreases-names::put_list : goal.decreases-names::put_list
decreases-names::put_list l = 16 * l.depth + 3

abbrev pub decreases-names::put_arguments : goal.decreases-names::put_arguments
decreases-names::put_arguments l = 16 * l.depth + 4

abbrev pub decreases-names::put_arguments_by : goal.decreases-names::put_arguments_by
decreases-names::put_arguments_by l = 16 * l.depth + 4

abbrev pub decreases-fronts::put_member_mark : goal.decreases-fronts::put_member_mark
decreases-fronts::put_member_mark l = 16 * l.depth + 5

abbrev pub decreases-fronts::put_star : goal.decreases-fronts::put_star
decreases-fronts::put_star l = 16 * l.depth + 6

abbrev pub decreases-fronts::put_pointer_front : goal.decreases-fronts::put_pointer_front
decreases-fronts::put_pointer_front l = 16 * l.depth + 7

abbrev pub decreases-fronts::put_modifier_front : goal.decreases-fronts::put_modifier_front
decreases-fronts::put_modifier_front l = 16 * l.depth + 7

abbrev pub decreases-backs::put_array_back : goal.decreases-backs::put_array_back
decreases-backs::put_array_back l = 16 * l.depth + 7

abbrev pub decreases-backs::put_bits_back : goal.decreases-backs::put_bits_back
decreases-backs::put_bits_back l = 16 * l.depth + 7

abbrev pub decreases-backs::put_procedure_back : goal.decreases-backs::put_procedure_back
decreases-backs::put_procedure_back l = 16 * l.depth + 7

abbrev pub decreases-backs::put_method_back : goal.decreases-backs::put_method_back
decreases-backs::put_method_back l = 16 * l.depth + 7

abbrev pub decreases-fronts::put_front_by : goal.decreases-fronts::put_front_by
decreases-fronts::put_front_by l = 16 * l.depth + 8

abbrev pub decreases-backs::put_back_by : goal.decreases-backs::put_back_by
decreases-backs::put_back_by l = 16 * l.depth + 8

abbrev pub decreases-backs::put_closed_by : goal.decreases-backs::put_closed_by
decreases-backs::put_closed_by l = 16 * l.depth + 9

abbrev pub decreases-names::put_name_by : goal.decreases-names::put_name_by
decreases-names::put_name_by l = 16 * l.depth + 9

abbrev pub invariant-names::put_list-loop-k : goal.invariant-names::put_list-loop-k
invariant-names::put_list-loop-k l =
    IsCut l.limit l.initial.out.items (flat_map (with_comma (λ j. name_in (parts l.types (first_definition l.full) l.depth j))) (take l.k (arguments_of l.arguments))) l.out.items ×
    (length l.out.items < l.limit → Paid 0 l.initial.steps.count l.steps.count l.initial.out.items l.out.items) ×
    Bounded (256 * l.depth) l.limit l.initial.steps.count l.steps.count l.initial.out.items ×
    (l.limit ≤ length l.initial.out.items → l.steps.count ≡ l.initial.steps.count)
