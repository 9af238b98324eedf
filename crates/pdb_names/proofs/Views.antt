-- Texts of the code, and the lists that they stand for.
use Rattle.std.proofs.Common.{◌≡◌, ℕ, ◌-◌, ◌<◌, ◌≤◌, List, [], ◌∷◌, length, get_or, map, take, refl, sym, ap, ◌∙◌}
use Rattle.std.specs.Prelude.{Bool, ◌||◌, ◌&&◌, not, nat_lt, Some, None}
use Rattle.std.specs.List.{list_any, slice_get}
use Rattle.std.specs.Option.{option_map}
use Rattle.std.proofs.lemmas.Option.{slice_get-map, slice_get-get_or, slice_get_past}
use Rattle.std.proofs.lemmas.List.{take-map, length-map}
use Rattle.pdb_names.specs.KeptNames.{Kept, has_bytes, is_wanted}
use Rattle.pdb_names.specs.RustNames.{all_but_last}

pub item_at : {X Y : Type 0} (f : X → Y) (xs : List X) (i : ℕ) (x : X) → i < length xs → x ≡ get_or xs i x → slice_get (map f xs) i ≡ Some (f x)
item_at f xs i x lt e = slice_get-map f xs i ∙ ap (option_map f) (slice_get-get_or xs i x lt) ∙ ap (λ y. Some (f y)) (sym e)

pub item_past : {X Y : Type 0} (f : X → Y) (xs : List X) (i : ℕ) → length xs ≤ i → slice_get (map f xs) i ≡ None
item_past f xs i le = slice_get-map f xs i ∙ ap (option_map f) (slice_get_past xs i le)

any_of : {X Y : Type 0} (f : X → Y) (p : Y → Bool) (xs : List X) → list_any p (map f xs) ≡ list_any (λ x. p (f x)) xs
any_of f p [] = refl
any_of f p (x ∷ xs) = ap (λ b. p (f x) || b) (any_of f p xs)

pub wanted_of : {X : Type 0} (f : X → Kept) (bytes : List ℕ) (xs : List X) → is_wanted bytes (map f xs) ≡ (nat_lt (length xs) 10 && not (list_any (λ x. has_bytes bytes (f x)) xs))
unfolding is_wanted
wanted_of f bytes xs = rw (length-map xs f, any_of f (has_bytes bytes) xs) refl

pub front_of : {X : Type 0} (f : X → List ℕ) (xs : List X) → map f (take (length xs - 1) xs) ≡ all_but_last (map f xs)
front_of f xs = sym (take-map f (length xs - 1) xs) ∙ ap (λ n. take (n - 1) (map f xs)) (sym (length-map xs f))
