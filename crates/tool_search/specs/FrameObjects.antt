-- The JSON object of an address: the argument, and the frames of its code.
use Rattle.std.specs.Prelude.{ℕ, ◌<◌, ◌^◌, List, [], ◌∷◌, codes, Option, Some, None}
use Rattle.json.specs.Json.{Json, null, array, object, Items, no_items, item, Members, no_members, member}
use Rattle.pdb.specs.Qualified.{Qualified}
use Rattle.pdb_resolve.specs.Frames.{Frame, qualified_text}
use Rattle.tool_output.specs.Objects.{known_value, number_value, text_value}

-- a function's name, with the one before it
abbrev pub name_value : Option Qualified → Json
name_value None = null
name_value (Some name) = known_value (qualified_text (Some name))

abbrev pub file_value : Option (List ℕ) → Json
file_value None = null
file_value (Some name) = known_value name

abbrev pub line_members : ℕ → ℕ → Members
line_members line column = member (codes "line") (number_value line) (member (codes "column") (number_value column) no_members)

abbrev pub frame_value : Frame → Json
frame_value f = object (member (codes "name") (name_value f.name) (member (codes "file") (file_value f.file) (line_members f.line f.column)))

abbrev pub frame_items : List Frame → Items
frame_items [] = no_items
frame_items (f ∷ fs) = item (frame_value f) (frame_items fs)

abbrev pub frames_member : List Frame → Members
frames_member frames = member (codes "frames") (array (frame_items frames)) no_members

-- an argument or a line, and the frames of the address that it is
abbrev pub asked_value : List ℕ → List Frame → Json
asked_value word frames = object (member (codes "asked") (text_value word) (frames_member frames))

-- a line that is no address
abbrev pub unasked_value : List ℕ → Json
unasked_value line = object (member (codes "asked") (text_value line) (member (codes "frames") null no_members))

-- line and column have 32 bits
pub record HasLine (f : Frame) : Type 0 where
  pub line : f.line < 2 ^ 32
  pub column : f.column < 2 ^ 32
