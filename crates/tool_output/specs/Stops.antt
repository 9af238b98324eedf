-- What stops a command.
use Rattle.std.specs.Prelude.{◌≡◌, ℕ, Result, IfErr}
use Rattle.std.specs.declared.io.ErrorKind.{ErrorKind}
use Rattle.std.specs.declared.io.ErrorKind.TheVariants as kind
use Rattle.pdb.specs.Error.{Error}
use Rattle.pdb.specs.Error.TheVariants as refusal
use Rattle.pdb_file.specs.declared.reading.FetchError.{FetchError}
use Rattle.pdb_file.specs.declared.reading.FetchError.TheVariants as fetch
use Rattle.tool_output.specs.declared.stop.Stop.{Stop}
use Rattle.tool_output.specs.declared.stop.Stop.TheVariants.{Unopened, Read, Input, Open, Image, NoPdb, Memory, Write}
use Rattle.tool_output.specs.WriteFailures.{failures_after}
use Rattle.tool_printing.specs.Printing.{Printing}
use Rattle.tool_output.specs.declared.fault.Fault.{Fault}
use Rattle.tool_output.specs.declared.fault.Fault.TheVariants.{Mistaken, NotText, NoInput, Stopped, Image as OverImage, OtherKey, Reported}

-- a read that failed
abbrev pub stop_of_fetch : FetchError → Stop
stop_of_fetch fetch.Read = Read
stop_of_fetch fetch.Memory = Memory

-- a read of standard input that failed, by its kind
abbrev pub stop_of_kind : ErrorKind → Stop
stop_of_kind kind.OutOfMemory = Memory
stop_of_kind k = Input

-- a refused call on an opened file
abbrev pub stop_of_refusal : Error → Stop
stop_of_refusal refusal.OutOfMemory = Memory
stop_of_refusal e = Read

-- a file that can't be opened
abbrev pub stop_of_opening : Error → Stop
stop_of_opening refusal.OutOfMemory = Memory
stop_of_opening refusal.IoError = Read
stop_of_opening e = Open e

-- ---- why a call stops: out of memory at any time, a read error only where io holds

-- what composes a text of an opened file
abbrev pub StopsComposing : Type 0 → Stop → Type 0
StopsComposing io Memory = Unit {0}
StopsComposing io Read = io
StopsComposing io stop = ⊥

-- what opens a file, and may read some of it
abbrev pub StopsOpening : Type 0 → Stop → Type 0
StopsOpening io Memory = Unit {0}
StopsOpening io Read = io
StopsOpening io (Open e) = Unit {0}
StopsOpening io stop = ⊥

-- what prints a text of an opened file
abbrev pub StopsWriting : Type 0 → Stop → Type 0
StopsWriting io Memory = Unit {0}
StopsWriting io Read = io
StopsWriting io Write = Unit {0}
StopsWriting io stop = ⊥

-- what opens a file and writes a text of it
abbrev pub StopsCommand : Type 0 → Stop → Type 0
StopsCommand io Memory = Unit {0}
StopsCommand io Read = io
StopsCommand io Write = Unit {0}
StopsCommand io (Open e) = Unit {0}
StopsCommand io stop = ⊥

-- what answers lines of standard input
abbrev pub StopsAnswering : Type 0 → Stop → Type 0
StopsAnswering io Input = Unit {0}
StopsAnswering io stop = StopsWriting io stop

-- the same, and opens the file
abbrev pub StopsAsked : Type 0 → Stop → Type 0
StopsAsked io Input = Unit {0}
StopsAsked io stop = StopsCommand io stop

-- a call that prints stops for one of these causes, and a failed write is counted
pub record Halts {X : Type 0} (io : Type 0) (old new : Printing) (result : Result X Stop) : Type 0 where
  pub cause : IfErr result (StopsWriting io)
  pub failures : new.failures ≡ failures_after old.failures result

-- the exit status of a command that stopped
abbrev pub status_of_stop : Stop → ℕ
status_of_stop (Unopened why) = 3
status_of_stop Read = 3
status_of_stop Input = 3
status_of_stop (Open e) = 4
status_of_stop (Image e) = 4
status_of_stop NoPdb = 4
status_of_stop Memory = 5
status_of_stop Write = 6

-- and of a fault of the program
abbrev pub status_of : Fault → ℕ
status_of (Mistaken mistake) = 2
status_of (NotText argument) = 2
status_of NoInput = 3
status_of (Stopped stop argument) = status_of_stop stop
status_of (OverImage stop value) = status_of_stop stop
status_of OtherKey = 7
status_of (Reported stop) = status_of_stop stop
