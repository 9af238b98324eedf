-- Streams, many at once.
use Rattle.std.specs.Prelude.{◌≡◌, ℕ, ◌+◌, List, [], ◌∷◌, length, Result, Ok, Err}
use Rattle.std.specs.List.{flat_map}
use Rattle.std.specs.Option.{unwrap_or}
use Rattle.pdb.specs.Error.{Error}
use Rattle.pdb.specs.Refusal.{◌>>=◌, number_of}
use Rattle.pdb.specs.Container.{opens}
use Rattle.pdb.specs.Answers.{raw_stream_in, named_stream_in}
use Rattle.pdb_c.specs.Rooms.{over}
use Rattle.pdb_c.specs.Boundary.{room_code, both_code}
use Rattle.pdb_c.specs.declared.streams.PdbStream.{PdbStream}

-- the bytes of the stream of a name
unfoldable pub named_bytes_in : List ℕ → List ℕ → Result (List ℕ) Error
named_bytes_in file name = opens file >>= λ u. named_stream_in file name

-- the bytes of a stream of an opened file, none for the number of no stream
unfoldable pub stream_read : List ℕ → ℕ → Result (List ℕ) Error
stream_read file n = raw_stream_in file n >>= λ o. Ok (unwrap_or o [])

-- the bytes that are read, and 0 or why they aren't
abbrev pub bytes_read : Result (List ℕ) Error → List ℕ
bytes_read (Ok bytes) = bytes
bytes_read (Err e) = []

abbrev pub code_read : Result (List ℕ) Error → ℕ
code_read (Ok bytes) = 0
code_read (Err e) = number_of e

-- the row of a stream whose bytes stand at a place
abbrev pub stream_row : ℕ → ℕ → Result (List ℕ) Error → PdbStream
stream_row at n read = record { at = at; size = length (bytes_read read); number = n; code = code_read read }

-- the rows of streams whose bytes stand one after the other from a place on, and those bytes
abbrev pub stream_rows : List ℕ → ℕ → List ℕ → List PdbStream
stream_rows file at [] = []
stream_rows file at (n ∷ ns) = stream_row at n (stream_read file n) ∷ stream_rows file (at + length (bytes_read (stream_read file n))) ns

abbrev pub bytes_of_stream : List ℕ → ℕ → List ℕ
bytes_of_stream file n = bytes_read (stream_read file n)

abbrev pub all_bytes : List ℕ → List ℕ → List ℕ
all_bytes file numbers = flat_map (bytes_of_stream file) numbers

-- what a call put: the streams' rows and bytes, each as far as its room reaches
pub record ArePut (file numbers : List ℕ) (c : ℕ) (before after : List PdbStream) (old new : List ℕ) (total : ℕ) : Type 0 where
  pub rows : after ≡ over (stream_rows file 0 numbers) before
  pub room : new ≡ over (all_bytes file numbers) old
  pub size : total ≡ length (all_bytes file numbers)
  pub code : c ≡ both_code (room_code (length before) (length numbers)) (room_code (length old) (length (all_bytes file numbers)))
