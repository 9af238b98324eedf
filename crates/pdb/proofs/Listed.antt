-- A list of modules of which some were read: where the item at a place is found.
use Rattle.std.proofs.Common.{◌≡◌, ℕ, ◌<◌, ◌≤◌, List, ◌++◌, length, slice_index_or, Option, Some, None, Ok, refl, ap, ◌∙◌, arith}
use Rattle.std.specs.List.{slice_get}
use Rattle.std.proofs.lemmas.Option.{slice_get_past, slice_get-get_or}
use Rattle.std.proofs.lemmas.List.{get_or_append_left, append-nil}
use Rattle.std.proofs.lemmas.Grind.{common_steps}
use Rattle.pdb_base.specs.declared.error.Error.{Error}
use Rattle.pdb_base.specs.Left.{Left, ended}
use Rattle.pdb_dbi.specs.Modules.{ModuleEntry}
use Rattle.pdb.specs.Answers.{item_at, item_or}
use Rattle.pdb.specs.Listed.{first_fault}

-- among those that were read
pub lookup_read : (xs : List ModuleEntry) (left : Left ModuleEntry) (f : Option Error) (k : ℕ) (d : ModuleEntry) → k < length xs
    → item_at k (record { items = xs ++ left.items; fault = first_fault f left.fault }) ≡ Ok (Some (slice_index_or xs k d))
lookup_read xs left f k d lt =
    let inside : k < length (xs ++ left.items) = grind (arith, common_steps, lt) in
    ap (λ o. item_or o (first_fault f left.fault)) (slice_get-get_or (xs ++ left.items) k d inside ∙ ap Some (get_or_append_left xs left.items d k lt))

first_none : (f : Option Error) → first_fault f None ≡ f
first_none None = refl
first_none (Some e) = refl

-- past the end
pub lookup_past : (xs : List ModuleEntry) (left : Left ModuleEntry) (f : Option Error) (k : ℕ) → length xs ≤ k → left ≡ ended
    → item_at k (record { items = xs ++ left.items; fault = first_fault f left.fault }) ≡ item_or None f
lookup_past xs left f k le e =
    let items : xs ++ left.items ≡ xs = ap (λ (l : Left ModuleEntry). xs ++ l.items) e ∙ append-nil xs in
    let fault : first_fault f left.fault ≡ f = ap (λ (l : Left ModuleEntry). first_fault f l.fault) e ∙ first_none f in
    ap (λ ys. item_or (slice_get ys k) (first_fault f left.fault)) items ∙ ap (λ g. item_or (slice_get xs k) g) fault ∙ ap (λ o. item_or o f) (slice_get_past xs k le)
