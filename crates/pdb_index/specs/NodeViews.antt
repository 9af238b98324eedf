-- What contracts see of frames and functions that borrow their names.
use Rattle.std.specs.Option.{option_map}
use Rattle.pdb_index.specs.declared.nodes.Frame.{Frame}
use Rattle.pdb_index.specs.declared.nodes.Function.{Function}
use Rattle.pdb_index.specs.NodeFrames.{Named, Told}

-- what a frame tells
abbrev pub told : Frame → Told
told f = record { name = option_map (λ x. x.now) f.name; start = f.start; file = option_map (λ x. x.now) f.file; line = f.line; column = f.column }

-- the name and the start of a function
abbrev pub named : Function → Named
named f = record { name = option_map (λ x. x.now) f.name; start = f.start }
