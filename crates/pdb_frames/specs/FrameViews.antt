-- What contracts see of the records of a stream: its bytes.
use Rattle.std.specs.Prelude.{ℕ, List}
use Rattle.pdb_frames.specs.declared.frame_lists.FrameDataRecords.{FrameDataRecords}
use Rattle.pdb_frames.specs.declared.frame_lists.FpoRecords.{FpoRecords}

abbrev pub frame_bytes : FrameDataRecords → List ℕ
frame_bytes r = r.bytes.now

abbrev pub fpo_bytes : FpoRecords → List ℕ
fpo_bytes r = r.bytes.now
