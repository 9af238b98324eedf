-- Ranges of which none is overlapped stay.
use Rattle.std.proofs.Common.{◌≡◌, List, [], ◌∷◌, Bool, true, false, refl, ap}
use Rattle.pdb_stacks.specs.ModuleRanges.{others, overlap, overlaps_any}
use Rattle.pdb_stacks.specs.declared.ranges.ModuleRange.{ModuleRange}

one_by : (new r : ModuleRange) (rs : List ModuleRange) (here : Bool) → overlap r new ≡ here → overlaps_any new (r ∷ rs) ≡ false
    → (overlaps_any new rs ≡ false → others new rs ≡ rs) → others new (r ∷ rs) ≡ r ∷ rs
one_by new r rs true e h more = let no = rw e at h in absurd cc
one_by new r rs false e h more = let rest = rw e at h in rw e (ap (λ l. r ∷ l) (more rest))

pub all_stay : (new : ModuleRange) (rs : List ModuleRange) → overlaps_any new rs ≡ false → others new rs ≡ rs
all_stay new [] h = refl
all_stay new (r ∷ rs) h = one_by new r rs (overlap r new) refl h (all_stay new rs)
