-- Frames as rows, and the text of their names.
use Rattle.std.specs.Prelude.{◌≡◌, ◌==◌, if◌then◌else◌, ℕ, ◌+◌, List, [], ◌∷◌, ◌++◌, length, flat_map, Option, Some, None, Bool, is_some}
use Rattle.pdb.specs.PdbInternalSectionOffset.{PdbInternalSectionOffset}
use Rattle.pdb.specs.Qualified.{Qualified}
use Rattle.pdb_resolve.specs.Frames.{Frame, scope_text}
use Rattle.pdb_resolve.specs.Resolved.{place_of_file, frames_of_file}
use Rattle.pdb_c.specs.Rooms.{over}
use Rattle.pdb_c.specs.Boundary.{room_code, both_code}
use Rattle.pdb_c.specs.declared.frames.PdbAddress.{PdbAddress}
use Rattle.pdb_c.specs.declared.frames.PdbFrame.{PdbFrame}

-- the place that is asked for: that of a relative virtual address, a section and an offset, or none
abbrev pub place_asked : List ℕ → PdbAddress → Option PdbInternalSectionOffset
place_asked file a =
    if a.kind == 0 then place_of_file file a.offset
    else if a.kind == 1 then Some (record { offset = a.offset; section = a.section })
    else None

-- ---- names

abbrev pub qualified_bytes : Option Qualified → List ℕ
qualified_bytes None = []
qualified_bytes (Some name) = scope_text name.scope ++ name.name

abbrev pub file_bytes : Option (List ℕ) → List ℕ
file_bytes None = []
file_bytes (Some name) = name

-- the name of a frame's function, and that of its file
abbrev pub frame_bytes : Frame → List ℕ
frame_bytes f = qualified_bytes f.name ++ file_bytes f.file

abbrev pub told_of : Bool → ℕ
told_of there = if there then 1 else 0

-- ---- rows

-- a frame of the address with this number, whose names stand from a place on
abbrev pub frame_row : ℕ → ℕ → Frame → PdbFrame
frame_row k at f = record {
  address = k;
  name_at = at;
  name_size = length (qualified_bytes f.name);
  file_at = at + length (qualified_bytes f.name);
  file_size = length (file_bytes f.file);
  line = f.line;
  column = f.column;
  has_name = told_of (is_some f.name);
  has_file = told_of (is_some f.file);
}

abbrev pub frame_rows : ℕ → ℕ → List Frame → List PdbFrame
frame_rows k at [] = []
frame_rows k at (f ∷ fs) = frame_row k at f ∷ frame_rows k (at + length (frame_bytes f)) fs

abbrev pub frames_bytes : List Frame → List ℕ
frames_bytes fs = flat_map frame_bytes fs

-- the frames of an address
abbrev pub frames_asked : List ℕ → PdbAddress → List Frame
frames_asked file a = frames_of_file file (place_asked file a)

abbrev pub bytes_asked : List ℕ → PdbAddress → List ℕ
bytes_asked file a = frames_bytes (frames_asked file a)

-- the frames of addresses, one address after the other, the first with this number
abbrev pub all_rows : List ℕ → ℕ → ℕ → List PdbAddress → List PdbFrame
all_rows file k at [] = []
all_rows file k at (a ∷ more) = frame_rows k at (frames_asked file a) ++ all_rows file (k + 1) (at + length (bytes_asked file a)) more

abbrev pub all_names : List ℕ → List PdbAddress → List ℕ
all_names file asked = flat_map (bytes_asked file) asked

-- what a call put: the frames and their names, each as far as its room reaches
pub record AreFrames (file : List ℕ) (asked : List PdbAddress) (c : ℕ) (before after : List PdbFrame) (frames : ℕ) (old new : List ℕ) (total : ℕ) : Type 0 where
  pub rows : after ≡ over (all_rows file 0 0 asked) before
  pub count : frames ≡ length (all_rows file 0 0 asked)
  pub names : new ≡ over (all_names file asked) old
  pub size : total ≡ length (all_names file asked)
  pub code : c ≡ both_code (room_code (length before) (length (all_rows file 0 0 asked))) (room_code (length old) (length (all_names file asked)))
