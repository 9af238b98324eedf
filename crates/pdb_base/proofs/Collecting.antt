-- Lists that are collected.
use Rattle.std.proofs.Common.{◌≡◌, List, map, Ok, sym, ap, ◌∙◌}
use Rattle.pdb_base.specs.Left.{Left, all_or, whole, Collects}

pub collected_whole : {X A : Type 0} (shown : X → A) (left : Left A) (xs : List X) → Collects shown left (Ok xs) → whole left ≡ Ok (map shown xs)
collected_whole shown left xs c = ap (all_or left.items) c.1 ∙ ap Ok (sym c.0)
