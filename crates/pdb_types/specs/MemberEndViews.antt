-- What the table of the ends of lists shows.
use Rattle.std.specs.Prelude.{◌≡◌, ◌+◌, ◌-◌, ◌%◌, ◌^◌, ℕ, List, Option, Some, None}
use Rattle.pdb_items.specs.Items.{ItemEntry, item_with}
use Rattle.pdb_types.specs.declared.member_faults.ListEnd.{ListEnd}
use Rattle.pdb_types.specs.MemberEnds.{list_end}

-- a row says how the list of its index ends
abbrev pub IsEndIn : List ItemEntry → ListEnd → Type 0
IsEndIn types row = row.end ≡ list_end (item_with types row.index)

-- where the row of an index stands behind the first, if rows have consecutive indices; indices go round at 2^32
abbrev pub place_behind : Option ListEnd → ℕ → ℕ
place_behind None i = 0
place_behind (Some first) i = (i + (2 ^ 32 - first.index)) % 2 ^ 32
