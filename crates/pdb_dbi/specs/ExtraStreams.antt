-- The numbers of further streams.
use Rattle.std.specs.Prelude.{ℕ, ◌+◌, ◌*◌, ◌%◌, List, length, Result, Ok, Err, ◌==◌, nat_le, if◌then◌else◌}
use Rattle.pdb_base.specs.declared.error.Error.{Error}
use Rattle.pdb_base.specs.declared.error.Error.TheVariants.{InvalidStreamLength}
use Rattle.pdb_base.specs.declared.error.Part.TheVariants.{DebugHeader}
use Rattle.pdb_base.specs.declared.index.StreamIndex.{StreamIndex}
use Rattle.pdb_base.specs.Refusal.{◌>>=◌}
use Rattle.pdb_base.specs.Fields.{number, bytes_at}
use Rattle.pdb_dbi.specs.declared.extra_streams.DBIExtraStreams.{DBIExtraStreams}
use Rattle.pdb_dbi.specs.declared.header.DBIHeader.{DBIHeader}
use Rattle.pdb_dbi.specs.Header.{header_of}

-- the stream with this number in a part, counted from 0; no stream where the part is too short
abbrev pub stream_at : List ℕ → ℕ → StreamIndex
stream_at part i = record { 0 = if nat_le (2 * i + 2) (length part) then number part (2 * i) 2 else 0xffff }

-- the first eleven streams of a part
unfoldable pub extra_streams_fields : List ℕ → DBIExtraStreams
extra_streams_fields part = record {
  fpo = stream_at part 0;
  exception = stream_at part 1;
  fixup = stream_at part 2;
  omap_to_src = stream_at part 3;
  omap_from_src = stream_at part 4;
  section_headers = stream_at part 5;
  token_rid_map = stream_at part 6;
  xdata = stream_at part 7;
  pdata = stream_at part 8;
  framedata = stream_at part 9;
  original_section_headers = stream_at part 10;
}

-- the streams of a part, whose length is even
unfoldable pub extra_streams_of : List ℕ → Result DBIExtraStreams Error
extra_streams_of part = if length part % 2 == 0 then Ok (extra_streams_fields part) else Err (InvalidStreamLength DebugHeader)

-- where the part stands in a DBI stream: behind the header and six parts
abbrev pub parts_end : DBIHeader → ℕ
parts_end h = 64 + h.module_list_size + h.section_contribution_size + h.section_map_size + h.file_info_size + h.type_server_map_size + h.ec_substream_size

unfoldable pub extra_streams_part_of : List ℕ → Result (List ℕ) Error
extra_streams_part_of b = header_of b >>= λ h. bytes_at b (parts_end h) h.debug_header_size

-- the further streams of a DBI stream
unfoldable pub extra_streams_in : List ℕ → Result DBIExtraStreams Error
extra_streams_in b = extra_streams_part_of b >>= extra_streams_of
