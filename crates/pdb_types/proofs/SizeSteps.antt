-- The size of a type, a step at a time.
use Rattle.std.proofs.Common.{◌≡◌, ℕ, zero, suc, ◌-◌, ◌≤◌, ◌<◌, List, Option, None, refl, arith}
use Rattle.std.proofs.lemmas.Bool.{le-ltb, lt-ltb}
use Rattle.pdb_items.specs.Items.{ItemEntry}
use Rattle.pdb_types.specs.SimpleTypes.{simple_size}
use Rattle.pdb_types.specs.TypeSays.{TypeSays}
use Rattle.pdb_types.specs.FullTypes.{full_index, natural, says_of, says_of_full, size_by, size_within}

pub size_simple : (types : List ItemEntry) (first : List ℕ → Option ℕ) (d i : ℕ) → i < 0x1000 → size_within types first d i ≡ natural (simple_size i)
unfolding size_within
size_simple types first zero i h = rw (lt-ltb i 0x1000 h) refl
size_simple types first (suc d) i h = rw (lt-ltb i 0x1000 h) refl

pub size_end : (types : List ItemEntry) (first : List ℕ → Option ℕ) (d i : ℕ) → 0x1000 ≤ i → d ≡ 0 → size_within types first d i ≡ None
unfolding size_within
size_end types first zero i h e = rw (le-ltb i 0x1000 h) refl
size_end types first (suc d) i h e = absurd (omega arith)

pub size_step : (types : List ItemEntry) (first : List ℕ → Option ℕ) (d i : ℕ) (says : Option TypeSays) → 0x1000 ≤ i → 0 < d → says ≡ says_of types i → size_within types first d i ≡ size_by (size_within types first (d - 1)) (says_of_full types (full_index types first i)) says
unfolding size_within
size_step types first zero i says h lt e = absurd (omega arith)
size_step types first (suc d) i says h lt e = let same : suc d - 1 ≡ d = omega arith in rw (le-ltb i 0x1000 h, same, e) refl
