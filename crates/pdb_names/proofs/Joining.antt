-- Texts that are joined, one more at a time.
use Rattle.std.proofs.Common.{◌≡◌, ℕ, zero, suc, ◌+◌, ◌<◌, ◌≤◌, List, [], ◌∷◌, ◌++◌, length, get_or, drop, map, take, sym, ap, ◌∙◌, arith, append_assoc, length-append}
use Rattle.std.specs.Prelude.{false, ◌==◌}
use Rattle.std.specs.List.{flat_map}
use Rattle.std.proofs.lemmas.Bool.{ne_eqb}
use Rattle.std.proofs.lemmas.List.{map_more, append-nil, length-map, length-take-le, take-append-drop, take-map}
use Rattle.std.proofs.lemmas.Grind.{common_steps, flat_map-append}
use Rattle.pdb_names.specs.Pieces.{behind_mark, joined}

more_of : (mark t u : List ℕ) (ts : List (List ℕ)) → joined mark ((t ∷ ts) ++ u ∷ []) ≡ (joined mark (t ∷ ts) ++ mark) ++ u
more_of mark t u ts =
    ap (λ (r : List ℕ). t ++ r) (flat_map-append (λ (y : List ℕ). mark ++ y) ts (u ∷ []))
    ∙ ap (λ (r : List ℕ). t ++ (flat_map (λ (y : List ℕ). mark ++ y) ts ++ r)) (append-nil (mark ++ u))
    ∙ sym (append_assoc t (flat_map (λ (y : List ℕ). mark ++ y) ts) (mark ++ u))
    ∙ sym (append_assoc (joined mark (t ∷ ts)) mark u)

more : (mark : List ℕ) (ts : List (List ℕ)) (u : List ℕ) → 0 < length ts → joined mark (ts ++ u ∷ []) ≡ (joined mark ts ++ mark) ++ u
more mark [] u some = absurd (omega arith)
more mark (t ∷ ts) u some = more_of mark t u ts

pub one_more : {X : Type 0} (f : X → List ℕ) (mark : List ℕ) (xs : List X) (i : ℕ) (x : X) → i < length xs → x ≡ get_or xs i x → joined mark (map f (take (i + 1) xs)) ≡ behind_mark (i == 0) mark (joined mark (map f (take i xs))) ++ f x
one_more {X = X} f mark [] i x lt e = absurd (omega arith)
one_more {X = X} f mark (y ∷ xs) zero x lt e = append-nil (f y) ∙ ap (λ (z : X). f z) (sym e)
one_more {X = X} f mark (y ∷ xs) (suc i) x lt e =
    let sized : length (map f (take (suc i) (y ∷ xs))) ≡ suc i = length-map (take (suc i) (y ∷ xs)) f ∙ length-take-le (suc i) (y ∷ xs) (omega arith) in
    let later : (suc i == 0) ≡ false = ne_eqb (suc i) 0 (λ q. omega (arith, q)) in
    rw later (ap (joined mark) (map_more f (y ∷ xs) (suc i) x lt) ∙ more mark (map f (take (suc i) (y ∷ xs))) (f (get_or (y ∷ xs) (suc i) x)) (omega (arith, sized)) ∙ ap (λ (z : X). (joined mark (map f (take (suc i) (y ∷ xs))) ++ mark) ++ f z) (sym e))

-- the texts of the first are a beginning of all
front_joined : {X : Type 0} (f : X → List ℕ) (mark : List ℕ) (xs : List X) (i : ℕ) → length (joined mark (map f (take i xs))) ≤ length (joined mark (map f xs))
front_joined f mark [] i = grind (arith, common_steps)
front_joined f mark (y ∷ ys) zero = omega arith
front_joined f mark (y ∷ ys) (suc i) =
    let g : List ℕ → List ℕ = λ t. mark ++ t in
    let cut : take i (map f ys) ++ drop i (map f ys) ≡ map f ys = take-append-drop i (map f ys) in
    let same : take i (map f ys) ≡ map f (take i ys) = take-map f i ys in
    let all : flat_map g (map f ys) ≡ flat_map g (map f (take i ys)) ++ flat_map g (drop i (map f ys)) = rw (← same) (sym (ap (flat_map g) cut) ∙ flat_map-append g (take i (map f ys)) (drop i (map f ys))) in
    simp length-append (rw all (simp length-append (omega arith)))

-- where all texts are joined to none, so are the first, with one more
pub nothing_joined : {X : Type 0} (f : X → List ℕ) (mark : List ℕ) (xs : List X) (i n : ℕ) (x : X) → i < length xs → x ≡ get_or xs i x → joined mark (map f xs) ≡ []
    → length (behind_mark (i == 0) mark (joined mark (map f (take i xs))) ++ f x) ≤ n
nothing_joined f mark xs i n x lt e none =
    let front = front_joined f mark xs (i + 1) in
    let zero : length (joined mark (map f xs)) ≡ 0 = ap length none in
    let one = ap length (one_more f mark xs i x lt e) in
    omega (arith, front, zero, one)
