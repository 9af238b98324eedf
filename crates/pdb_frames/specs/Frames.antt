-- The records of the streams of frame data.
use Rattle.std.specs.Prelude.{ℕ, ◌*◌, ◌/◌, ◌%◌, ◌==◌, bit_and, Bool, false, not, List, drop, Some, None, if◌then◌else◌}
use Rattle.pdb_base.specs.Fields.{number}
use Rattle.pdb_frames.specs.declared.frame_data.FrameData.{FrameData}
use Rattle.pdb_frames.specs.declared.frame_data.FrameType.{FrameType}
use Rattle.pdb_frames.specs.declared.frame_data.FrameType.TheVariants as kinds

-- the bit of a number is set
abbrev pub has : ℕ → ℕ → Bool
has bits mask = not (bit_and bits mask == 0)

-- of the 32 bytes of `FRAMEDATA`
unfoldable pub frame_data_of : List ℕ → FrameData
frame_data_of b = record {
  frame_type = kinds.FrameData;
  code_start = number b 0 4;
  code_size = number b 4 4;
  locals_size = number b 8 4;
  params_size = number b 12 4;
  max_stack_size = number b 16 4;
  prolog_size = number b 24 2;
  saved_regs_size = number b 26 2;
  has_structured_eh = has (number b 28 4) 1;
  has_cpp_eh = has (number b 28 4) 2;
  is_function_start = has (number b 28 4) 4;
  uses_base_pointer = false;
  program = Some (record { 0 = number b 20 4 });
}

-- the kind by the upper two of 16 bits
abbrev pub fpo_type : ℕ → FrameType
fpo_type bits =
    if bits / 0x4000 == 0 then kinds.Fpo else
    if bits / 0x4000 == 1 then kinds.Trap else
    if bits / 0x4000 == 2 then kinds.Tss else
    kinds.Standard

-- of the 16 bytes of `FPO_DATA`, which counts words of four bytes
unfoldable pub fpo_of : List ℕ → FrameData
fpo_of b = record {
  frame_type = fpo_type (number b 14 2);
  code_start = number b 0 4;
  code_size = number b 4 4;
  locals_size = 4 * number b 8 4;
  params_size = 4 * number b 12 2;
  max_stack_size = 0;
  prolog_size = number b 14 2 % 0x100;
  saved_regs_size = 4 * (number b 14 2 / 0x100 % 8);
  has_structured_eh = has (number b 14 2) 0x800;
  has_cpp_eh = false;
  is_function_start = false;
  uses_base_pointer = has (number b 14 2) 0x1000;
  program = None;
}

-- the record of a number in a stream
abbrev pub frame_data_at : List ℕ → ℕ → FrameData
frame_data_at b k = frame_data_of (drop (32 * k) b)

abbrev pub fpo_at : List ℕ → ℕ → FrameData
fpo_at b k = fpo_of (drop (16 * k) b)
