-- The frames of a line's references.
use Rattle.std.specs.Prelude.{◌≡◌, ℕ, OnOk, Result, ◌-◌, List, [], ◌∷◌, ◌++◌, map, ◌==◌, ◌||◌, ◌&&◌, not, Bool, false, if◌then◌else◌, Option, Some, None}
use Rattle.pdb_stacks.specs.declared.line_code.LineCode.{LineCode}
use Rattle.pdb_stacks.specs.declared.references.Reference.{Reference}
use Rattle.tool_stacks.specs.Answers.{Answers, Asked, Tells}
use Rattle.tool_stacks.specs.LineAddresses.{relative_by}
use Rattle.tool_stacks.specs.LineUses.{Heard, Use, code_of, heard_of, listed_of, naming, returns_by, uses_by}
use Rattle.tool_stacks.specs.Missing.{Missing, counted, missing_of}
use Rattle.tool_stacks.specs.declared.address.LineAddress.{LineAddress}
use Rattle.tool_stacks.specs.declared.asking.PdbAddress.{PdbAddress}
use Rattle.tool_stacks.specs.declared.asking.Shown.{Shown}
use Rattle.tool_stacks.specs.declared.line.Known.{Known}
use Rattle.tool_stacks.specs.declared.symbols.FoundPdb.{FoundPdb}

-- the frames so far, the last address that has some, and the modules without a PDB
pub record Showing : Type 0 where
  pub frames : List ℕ
  pub last : Option PdbAddress
  pub missing : List Missing

abbrev pub shown_of : Shown → Showing
shown_of s = record { frames = s.frames.items; last = s.last; missing = map missing_of s.missing.items }

-- the call before a return address is at the byte before, unless a function begins at the address
abbrev pub stays : Answers → Bool → PdbAddress → Bool
stays a is_return p = not is_return || p.address == 0 || a.begins_function p.pdb p.address

abbrev pub call_of : Answers → Bool → PdbAddress → PdbAddress
call_of a is_return p = if stays a is_return p then p else record { pdb = p.pdb; address = p.address - 1 }

abbrev pub is_last : Option PdbAddress → PdbAddress → Bool
is_last None p = false
is_last (Some last) p = last.pdb == p.pdb && last.address == p.address

-- the frames of an address, if it has some
abbrev pub with_frames : PdbAddress → Showing → Option (List ℕ) → Showing
with_frames p s None = s
with_frames p s (Some frames) = record { frames = s.frames ++ frames; last = Some p; missing = s.missing }

-- not those of the last address a second time
abbrev pub shown_at : Answers → PdbAddress → Showing → Showing
shown_at a p s = if is_last s.last p then s else with_frames p s (a.frames p.pdb p.address)

abbrev pub shown_by : Answers → Bool → ℕ → Option ℕ → Showing → Showing
shown_by a is_return pdb None s = s
shown_by a is_return pdb (Some address) s = shown_at a (call_of a is_return (record { pdb = pdb; address = address })) s

-- an address in a module that has a PDB
abbrev pub asked_found : Answers → Bool → LineAddress → FoundPdb → Showing → Showing
asked_found a is_return address f s = shown_by a is_return f.pdb (relative_by f.«module» address) s

-- a module without a PDB is counted
abbrev pub asked_by : Answers → Bool → Use → Option FoundPdb → Showing → Showing
asked_by a is_return u None s = record { frames = s.frames; last = s.last; missing = counted u.name s.missing }
asked_by a is_return u (Some f) s = asked_found a is_return u.address f s

abbrev pub asked : Answers → Bool → Use → Showing → Showing
asked a is_return u s = asked_by a is_return u (a.pdb_of u.name) s

-- one reference after another
abbrev pub asked_all : Answers → Bool → List Use → Showing → Showing
asked_all a is_return [] s = s
asked_all a is_return (u ∷ us) s = asked_all a is_return us (asked a is_return u s)

-- ---- of a line that is no heading

abbrev pub code_shown : Answers → Bool → List ℕ → List Reference → Heard → LineCode → Showing → Showing
code_shown a is_return line rs k c s = asked_all a (returns_by is_return c) (uses_by line rs k c) s

abbrev pub known_shown : Answers → Bool → List ℕ → Known → LineCode → Showing → Showing
known_shown a is_return line k c s = code_shown a is_return line k.references.items (heard_of k) c s

abbrev pub shown_named : Answers → Bool → List ℕ → Heard → Showing → Showing
shown_named a is_return line k s = code_shown a is_return line (listed_of line k) k (code_of line k) s

abbrev pub line_shown : Answers → Bool → List ℕ → Heard → Showing → Showing
line_shown a is_return line k s = shown_named a is_return line (naming line k) s

-- ---- a call leaves the frames of these answers

abbrev pub Shows : {X E : Type 0} → Asked → Asked → Result X E → Shown → Shown → (Answers → Showing → Showing) → Type 0
Shows asked behind result old new showing = Tells asked behind (λ a. OnOk result (shown_of new ≡ showing a (shown_of old)))
