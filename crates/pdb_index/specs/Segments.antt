-- The places of addresses.
use Rattle.std.specs.Prelude.{◌≡◌, ℕ, ◌+◌, ◌-◌, ◌%◌, ◌^◌, List, Option, Some, None, ◌==◌, nat_lt, if◌then◌else◌}
use Rattle.pdb_index.specs.declared.layout.Layout.{Layout}
use Rattle.pdb_index.specs.declared.segments.Place.{Place}
use Rattle.pdb_index.specs.IndexLayout.{start_of, word_at}
use Rattle.pdb_index.specs.Searches.{Finds}

-- the place of an address in segment k, where this names a section or none
unfoldable pub place_in : List ℕ → Layout → ℕ → ℕ → Option (Option Place)
place_in b t k address =
    if nat_lt 65535 (word_at b t.segments k 4) then None
    else (if word_at b t.segments k 4 == 0 then Some None
    else Some (Some (record { section = word_at b t.segments k 4; offset = (word_at b t.segments k 8 + (address - word_at b t.segments k 0)) % 2 ^ 32 })))

-- the place of an address by the segment that has it
abbrev pub place_by : List ℕ → Layout → ℕ → Option ℕ → Option (Option Place)
place_by b t address None = None
place_by b t address (Some k) = place_in b t k address

-- the place of an address, or damage, by a segment that begins at or before it and behind which the next begins behind it
abbrev pub IsPlaceOf : List ℕ → Layout → ℕ → Option (Option Place) → Type 0
IsPlaceOf b t address place =
    (k : Option ℕ) × Finds (start_of b t.segments) 0 t.segments.rows address k × (place ≡ place_by b t address k)
