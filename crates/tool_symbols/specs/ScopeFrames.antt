-- The registers from which variables of a procedure's frame count.
use Rattle.std.specs.Prelude.{ℕ, zero, suc, ◌==◌, ◌||◌, nat_lt, Bool, if◌then◌else◌, List, [], ◌∷◌, length, Option, Some, None, Result, Ok}
use Rattle.pdb.specs.Error.{Error}
use Rattle.pdb.specs.Forms.{kind_at}
use Rattle.pdb.specs.Scopes.{starts_of, ends_of}
use Rattle.pdb.specs.SymbolList.{Entry}
use Rattle.pdb_records.specs.RecordReading.{further_at}
use Rattle.pdb_records.specs.RecordSays.{Says}
use Rattle.pdb_records.specs.RecordSays.Says.{FrameProcedure}
use Rattle.tool_symbols.specs.Depth.{depth_behind}
use Rattle.tool_symbols.specs.declared.scope_frames.Bases.{Bases}

-- no register is known
abbrev pub no_bases : Bases
no_bases = record { local = 0; parameter = 0 }

-- those of a frame's record, S_FRAMEPROC; none for other records
abbrev pub bases_in : Result Says Error → Option Bases
bases_in (Ok (FrameProcedure s)) = Some (record { local = s.local_base; parameter = s.parameter_base })
bases_in r = None

abbrev pub bases_at : List ℕ → Option Bases
bases_at b = if kind_at b == 0x1012 then bases_in (further_at b) else None

abbrev pub bases_or : Option Bases → Bases → Bases
bases_or None other = other
bases_or (Some bases) other = bases

-- those of the first frame's record that stands directly in a scope, in which so many scopes are open before these records
abbrev pub first_bases : ℕ → List Entry → Bases
first_bases inner [] = no_bases
first_bases zero (s ∷ ss) = if ends_of (kind_at s.bytes) then no_bases else bases_or (bases_at s.bytes) (first_bases (depth_behind 0 (kind_at s.bytes)) ss)
first_bases (suc inner) (s ∷ ss) = first_bases (depth_behind (suc inner) (kind_at s.bytes)) ss

-- a kind of procedures or of separated code
abbrev pub has_frame : ℕ → Bool
has_frame kind =
    kind == 0x110f || kind == 0x1110 || kind == 0x1146 || kind == 0x1147 || kind == 0x1155 || kind == 0x1156
    || kind == 0x100a || kind == 0x100b || kind == 0x1132

-- those of the innermost of the scopes that are open
abbrev pub innermost : List Bases → Bases
innermost [] = no_bases
innermost (bases ∷ around) = bases

-- those of a scope that a record of a kind starts, before these records: its own, looked for in the outermost eight scopes; else those around it
abbrev pub bases_within : List Bases → ℕ → List Entry → Bases
bases_within around kind ss = if has_frame kind then (if nat_lt (length around) 8 then first_bases 0 ss else no_bases) else innermost around

-- the scopes that are open at a record of a kind, the innermost first
abbrev pub outer : List Bases → List Bases
outer [] = []
outer (bases ∷ around) = around

abbrev pub open_at : List Bases → ℕ → List Bases
open_at around kind = if ends_of kind then outer around else around

-- behind a record of a kind that stands in these scopes, before these records
abbrev pub entered : List Bases → ℕ → List Entry → List Bases
entered around kind ss = if starts_of kind then bases_within around kind ss ∷ around else around

abbrev pub open_behind : List Bases → ℕ → List Entry → List Bases
open_behind around kind ss = entered (open_at around kind) kind ss
