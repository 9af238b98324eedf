use Rattle.std.proofs.Common.{◌+◌, ◌*◌, length, map}
use Rattle.pdb_names.specs.Reads.{Passed}
use Rattle.pdb_names.specs.Templates.{all_arguments, all_components, is_end, listed, one_argument, one_more, typ}
use Rattle.pdb_names.specs.Views.{left_of}
use Rattle.pdb_names.proofs.Runs.{Run}
use Rattle.pdb_names.proofs.+templates.Given as goal

abbrev pub decreases-reader::Reader::typ : goal.decreases-reader::Reader::typ
decreases-reader::Reader::typ l = 16 * l.levels + 0

abbrev pub decreases-reader::Reader::type_argument : goal.decreases-reader::Reader::type_argument
decreases-reader::Reader::type_argument l = 16 * l.levels + 1

abbrev pub decreases-reader::Reader::one_argument : goal.decreases-reader::Reader::one_argument
decreases-reader::Reader::one_argument l = 16 * l.levels + 2

abbrev pub decreases-reader::Reader::all_arguments : goal.decreases-reader::Reader::all_arguments
decreases-reader::Reader::all_arguments l = 16 * l.levels + 3

abbrev pub decreases-templates::arguments : goal.decreases-templates::arguments
decreases-templates::arguments l = 16 * l.levels + 4

abbrev pub decreases-templates::template : goal.decreases-templates::template
decreases-templates::template l = 16 * l.levels + 5

abbrev pub decreases-reader::Reader::template_component : goal.decreases-reader::Reader::template_component
decreases-reader::Reader::template_component l = 16 * l.levels + 6

abbrev pub decreases-reader::Reader::component : goal.decreases-reader::Reader::component
decreases-reader::Reader::component l = 16 * l.levels + 7

abbrev pub decreases-reader::Reader::one_more : goal.decreases-reader::Reader::one_more
decreases-reader::Reader::one_more l = 16 * l.levels + 8

abbrev pub decreases-reader::Reader::all_components : goal.decreases-reader::Reader::all_components
decreases-reader::Reader::all_components l = 16 * l.levels + 9

abbrev pub decreases-reader::Reader::components : goal.decreases-reader::Reader::components
decreases-reader::Reader::components l = 16 * l.levels + 10

abbrev pub decreases-reader::Reader::class_type : goal.decreases-reader::Reader::class_type
decreases-reader::Reader::class_type l = 16 * l.levels + 11

abbrev pub decreases-reader::Reader::marked_type : goal.decreases-reader::Reader::marked_type
decreases-reader::Reader::marked_type l = 16 * l.levels + 11

abbrev pub decreases-reader::Reader::type_by : goal.decreases-reader::Reader::type_by
decreases-reader::Reader::type_by l = 16 * l.levels + 12

abbrev pub invariant-reader::Reader::all_arguments-loop-alloc : goal.invariant-reader::Reader::all_arguments-loop-alloc
invariant-reader::Reader::all_arguments-loop-alloc l = Run is_end (one_argument (typ l.levels)) (all_arguments (typ l.levels) (listed (map (λ v. v.items) l.initial.texts.items) (left_of l.initial.self))) (length l.initial.self.rest.now) (length l.self.rest.now) (listed (map (λ v. v.items) l.texts.items) (left_of l.self)) × Passed l.initial.reads.count l.reads.count l.initial.self.rest.now l.self.rest.now

abbrev pub decreases-reader::Reader::all_arguments-loop-alloc : goal.decreases-reader::Reader::all_arguments-loop-alloc
decreases-reader::Reader::all_arguments-loop-alloc l = length l.self.rest.now

abbrev pub invariant-reader::Reader::all_components-loop-alloc : goal.invariant-reader::Reader::all_components-loop-alloc
invariant-reader::Reader::all_components-loop-alloc l = Run is_end (one_more (typ l.levels)) (all_components (typ l.levels) (listed (map (λ v. v.items) l.initial.texts.items) (left_of l.initial.self))) (length l.initial.self.rest.now) (length l.self.rest.now) (listed (map (λ v. v.items) l.texts.items) (left_of l.self)) × Passed l.initial.reads.count l.reads.count l.initial.self.rest.now l.self.rest.now

abbrev pub decreases-reader::Reader::all_components-loop-alloc : goal.decreases-reader::Reader::all_components-loop-alloc
decreases-reader::Reader::all_components-loop-alloc l = length l.self.rest.now
