-- A line program: rows, and which of them belong to which subsection.
use Rattle.std.specs.Prelude.{◌≡◌, ℕ, ◌+◌, ◌≤◌, List, [], ◌∷◌, map, length, take, Option, Result, Ok}
use Rattle.pdb_base.specs.declared.error.Error.{Error}
use Rattle.pdb_base.specs.Refusal.{◌>>=◌}
use Rattle.pdb_modules.specs.declared.rows.Row.{Row}
use Rattle.pdb_modules.specs.declared.line_subsection.LineSubsection.{LineSubsection}
use Rattle.pdb_modules.specs.declared.line_program.Listed.{Listed}
use Rattle.pdb_modules.specs.ProgramParts.{parts_of}
use Rattle.pdb_modules.specs.Lines.{Subsection, lines_of}
use Rattle.pdb_modules.specs.LineOrder.{InOrder}
use Rattle.pdb_modules.specs.KeptRows.{whole, own, subsection_of, all_own, own_records, given_count}

-- what a line program is of: its subsections of lines in their order, the bytes of its files' checksums, and the lines data in which they stand
pub record ProgramOf : Type 0 where
  pub subsections : List Subsection
  pub checksums : List ℕ
  pub bytes : List ℕ

-- the line program of a module's lines data
unfoldable pub program_of : List ℕ → Result ProgramOf Error
program_of b = parts_of b >>= λ ps. Ok (record { subsections = ps.subsections; checksums = ps.checksums; bytes = b })

-- how many bytes the blocks of a part have
abbrev pub part_bytes : LineSubsection → ℕ
part_bytes part = length part.bytes.now

-- the subsections that are listed
abbrev pub listed_subsections : List Listed → List Subsection
listed_subsections ls = map (λ l. subsection_of l.part) ls

-- the ranges of rows stand one after another, the first from `start` on, and each but the row that a fault hides is given; there are no more than bytes
abbrev pub AreRanges : ℕ → List Listed → Type 0
AreRanges start [] = Unit {0}
AreRanges start (l ∷ ls) = (l.from ≡ start) × (l.to ≡ start + given_count (length (own_records (subsection_of l.part))) (subsection_of l.part).fault) × (l.fault ≡ (subsection_of l.part).fault) × (l.to ≤ l.from + part_bytes l.part) × AreRanges (start + length (own_records (subsection_of l.part))) ls

-- rows and ranges say of the subsections that are listed what the definitions say
pub record IsResolved (rows : List Row) (ls : List Listed) (count : ℕ) (fault : Option Error) (b : List ℕ) : Type 0 where
  pub shown : take count (map whole rows) ≡ (lines_of (listed_subsections ls)).items
  pub told : fault ≡ (lines_of (listed_subsections ls)).fault
  pub alone : map own rows ≡ all_own (listed_subsections ls)
  pub ranges : AreRanges 0 ls
  pub inside : count ≤ length rows
  pub room : length rows ≤ length b
  pub order : InOrder (listed_subsections ls)
