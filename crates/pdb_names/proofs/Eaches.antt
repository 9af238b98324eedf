-- Texts that each become another, one more at a time.
use Rattle.std.proofs.Common.{◌≡◌, ℕ, zero, suc, ◌+◌, ◌<◌, List, [], ◌∷◌, ◌++◌, length, get_or, map, take, refl, sym, ap, ◌∙◌, arith}
use Rattle.std.specs.Prelude.{Option, Some, None, option_and_then}
use Rattle.std.proofs.lemmas.List.{map_more, map-append}
use Rattle.pdb_names.specs.Pieces.{each}

cons_head : (f : List ℕ → Option (List ℕ)) (t : List ℕ) (ts : List (List ℕ)) → f t ≡ None → each f (t ∷ ts) ≡ None
unfolding each
cons_head f t ts p = rw p refl

-- what the first becomes, where the rest become something
ahead : Option (List (List ℕ)) → List ℕ → Option (List (List ℕ))
ahead rest u = option_and_then (λ us. Some (u ∷ us)) rest

step : (f : List ℕ → Option (List ℕ)) (first : Option (List ℕ)) (rest more : Option (List (List ℕ))) (us : List (List ℕ)) (u : List ℕ) → ((vs : List (List ℕ)) → rest ≡ Some vs → more ≡ Some (vs ++ u ∷ [])) → option_and_then (ahead rest) first ≡ Some us → option_and_then (ahead more) first ≡ Some (us ++ u ∷ [])
unfolding ahead
step f None rest more us u h e = cc
step f (Some t) None more us u h e = cc
step f (Some t) (Some vs) more us u h e = let m : more ≡ Some (vs ++ u ∷ []) = h vs refl in let same : t ∷ vs ≡ us = (cc) in rw (m, ← same) refl

-- the first by cases
each_more_of : (f : List ℕ → Option (List ℕ)) (ts us : List (List ℕ)) (t u : List ℕ) → each f ts ≡ Some us → f t ≡ Some u → each f (ts ++ t ∷ []) ≡ Some (us ++ u ∷ [])
unfolding each ahead
each_more_of f [] us t u e p = let same : us ≡ [] = (cc) in rw (p, same) refl
each_more_of f (s ∷ ts) us t u e p = step f (f s) (each f ts) (each f (ts ++ t ∷ [])) us u (λ vs q. each_more_of f ts vs t u q p) e

pub each_step : {X Y : Type 0} (f : List ℕ → Option (List ℕ)) (v : X → List ℕ) (w : Y → List ℕ) (xs : List X) (i : ℕ) (x : X) (ys : List Y) (y : Y) → i < length xs → x ≡ get_or xs i x → each f (map v (take i xs)) ≡ Some (map w ys) → f (v x) ≡ Some (w y) → each f (map v (take (i + 1) xs)) ≡ Some (map w (ys ++ y ∷ []))
each_step {X = X} f v w xs i x ys y lt e before here =
    let named : f (v (get_or xs i x)) ≡ Some (w y) = ap (λ (z : X). f (v z)) (sym e) ∙ here in
    ap (each f) (map_more v xs i x lt) ∙ each_more_of f (map v (take i xs)) (map w ys) (v (get_or xs i x)) (w y) before named ∙ ap Some (sym (map-append w ys (y ∷ [])))

tail_none : (f : List ℕ → Option (List ℕ)) (first : Option (List ℕ)) → option_and_then (ahead None) first ≡ None
unfolding ahead
tail_none f None = refl
tail_none f (Some t) = refl

cons_tail : (f : List ℕ → Option (List ℕ)) (t : List ℕ) (ts : List (List ℕ)) → each f ts ≡ None → each f (t ∷ ts) ≡ None
unfolding each ahead
cons_tail f t ts e = rw e (tail_none f (f t))

pub each_stop : {X : Type 0} (f : List ℕ → Option (List ℕ)) (v : X → List ℕ) (xs : List X) (i : ℕ) (x : X) → i < length xs → x ≡ get_or xs i x → f (v x) ≡ None → each f (map v xs) ≡ None
each_stop {X = X} f v [] i x lt e p = absurd (omega arith)
each_stop {X = X} f v (y ∷ xs) zero x lt e p = cons_head f (v y) (map v xs) (ap (λ (z : X). f (v z)) (sym e) ∙ p)
each_stop {X = X} f v (y ∷ xs) (suc i) x lt e p = cons_tail f (v y) (map v xs) (each_stop f v xs i x (omega arith) e p)
