-- The bytes of a stream.
use Rattle.std.specs.Prelude.{ℕ, List, false, nat_lt, Option, Some, None, Result, Ok, Err, if◌then◌else◌}
use Rattle.pdb.specs.Answers.{named_stream_in}
use Rattle.pdb.specs.Container.{stream_of}
use Rattle.pdb.specs.Error.{Error}
use Rattle.pdb.specs.Error.TheVariants.{StreamNameNotFound, StreamNotFound}
use Rattle.tool_arguments.specs.StreamsAsked.{StreamOf}
use Rattle.tool_arguments.specs.StreamsAsked.StreamOf.{called, numbered}
use Rattle.tool_lists.specs.declared.stream_bytes.StreamGap.{StreamGap}
use Rattle.tool_lists.specs.declared.stream_bytes.StreamGap.TheVariants.{Missing, Refused}
use Rattle.tool_printing.specs.Printing.{Shown, nothing}

-- a file names its streams by two bytes, of which the greatest names none
abbrev pub numbered_in : List ℕ → ℕ → Result (List ℕ) Error
numbered_in file n = if nat_lt n 0xffff then stream_of file n None else Err StreamNameNotFound

-- the stream that is asked for
abbrev pub stream_asked_in : List ℕ → StreamOf → Result (List ℕ) Error
stream_asked_in file (numbered n) = numbered_in file n
stream_asked_in file (called name) = named_stream_in file name

-- what is written: all bytes, or none
abbrev pub stream_shown : Result (List ℕ) Error → Shown
stream_shown (Ok bytes) = record { bytes = bytes; damaged = false }
stream_shown (Err e) = nothing

-- what a refusal says of a stream
abbrev pub gap_of : Error → StreamGap
gap_of (StreamNotFound n) = Missing
gap_of StreamNameNotFound = Missing
gap_of e = Refused e

abbrev pub gap_in : Result (List ℕ) Error → Option StreamGap
gap_in (Ok bytes) = None
gap_in (Err e) = Some (gap_of e)
