-- Lines put piece by piece.
use Rattle.std.proofs.Common.{◌≡◌, ℕ, List, ◌++◌, codes, append_assoc}

pub contributed : (o a h d g k : List ℕ) → (((o ++ a) ++ (codes " " ++ h ++ codes " ")) ++ d) ++ (codes " " ++ g ++ codes " " ++ k ++ codes "\n") ≡ o ++ (a ++ codes " " ++ h ++ codes " " ++ d ++ codes " " ++ g ++ codes " " ++ k) ++ codes "\n"
contributed o a h d g k = simp append_assoc
