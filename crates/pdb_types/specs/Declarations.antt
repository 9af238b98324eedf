-- Declarations of names with types.
use Rattle.std.specs.Prelude.{ℕ, ◌-◌, ◌==◌, ◌||◌, not, ◌++◌, Bool, List, length, slice_index, Option, codes}
use Rattle.pdb_items.specs.Items.{ItemEntry}
use Rattle.pdb_types.specs.TypeTexts.{Parts, cut_off, parts, where_so}

-- `*`, `&` and `(`, behind which a name needs no blank
abbrev pub is_mark : ℕ → Bool
is_mark x = x == 0x2a || x == 0x26 || x == 0x28

-- what stands between a front and a name: a blank, unless the front ends in a mark
abbrev pub blank_behind : List ℕ → List ℕ
blank_behind front = where_so (not (is_mark (slice_index front (length front - 1)))) (codes " ")

-- a name between what stands before and behind it
abbrev pub declared_in : List ℕ → Parts → List ℕ
declared_in name p = p.front ++ (blank_behind p.front ++ (name ++ p.back))

-- the declaration of a name with the type of an index
unfoldable pub shown_declaration : List ItemEntry → (List ℕ → Option ℕ) → ℕ → List ℕ → List ℕ
shown_declaration types first i name = cut_off 65536 (declared_in name (parts types first 64 i))
