-- The runs of sections.
use Rattle.std.specs.Prelude.{◌≡◌, ◌⊎◌, ℕ, ◌+◌, ◌-◌, ◌/◌, ◌%◌, ◌<◌, ◌≤◌, List, Option, Some, None, ◌==◌, if◌then◌else◌}
use Rattle.std.specs.Option.{option_map}
use Rattle.pdb_index.specs.declared.layout.Layout.{Layout}
use Rattle.pdb_index.specs.declared.runs.Run.{Run}
use Rattle.pdb_index.specs.IndexLayout.{field_at, start_of, word_at}
use Rattle.pdb_index.specs.Searches.{Finds}

-- what the value of run k says: the innermost node, and whether there is damage
abbrev pub run_of : List ℕ → Layout → ℕ → Run
run_of b t k =
    record {
      number = k;
      node = field_at b t.values k 0 t.values.width / 2;
      is_damaged = field_at b t.values k 0 t.values.width % 2 == 1;
    }

-- the row of a section, by the last row that begins at or before it
abbrev pub section_row : List ℕ → Layout → ℕ → Option ℕ → Option ℕ
section_row b t section None = None
section_row b t section (Some k) = if start_of b t.sections k == section then Some k else None

-- the row of a section, where it has runs
abbrev pub IsRowOf : List ℕ → Layout → ℕ → Option ℕ → Type 0
IsRowOf b t section row =
    (k : Option ℕ) × Finds (start_of b t.sections) 0 (t.sections.rows - 1) section k × (row ≡ section_row b t section k)

-- the number of the run that has an offset, among those from `first` on and before `behind`; or damage
abbrev pub IsRunAmong : List ℕ → Layout → ℕ → ℕ → ℕ → Option ℕ → Type 0
IsRunAmong b t first behind offset run =
    ((first < behind) × (behind ≤ t.starts.rows) × Finds (start_of b t.starts) first behind offset run)
    ⊎ ((first < behind → t.starts.rows < behind) × (run ≡ None))

-- the run that has an offset of the section of row k; or damage
abbrev pub IsRunOfRow : List ℕ → Layout → ℕ → ℕ → Option Run → Type 0
IsRunOfRow b t k offset run =
    (n : Option ℕ) × IsRunAmong b t (word_at b t.sections k 4) (word_at b t.sections (k + 1) 4) offset n × (run ≡ option_map (run_of b t) n)

-- the run that has an offset of the section of a row, where there is such a row; or damage
abbrev pub IsRunIn : List ℕ → Layout → ℕ → Option ℕ → Option (Option Run) → Type 0
IsRunIn b t offset None run = run ≡ Some None
IsRunIn b t offset (Some k) run = (r : Option Run) × IsRunOfRow b t k offset r × (run ≡ option_map Some r)

-- the run at an offset of a section, where the section has runs; or damage
abbrev pub IsRunAt : List ℕ → Layout → ℕ → ℕ → Option (Option Run) → Type 0
IsRunAt b t section offset run =
    (row : Option ℕ) × IsRowOf b t section row × IsRunIn b t offset row run
