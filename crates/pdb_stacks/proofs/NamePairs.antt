-- Names that are compared byte by byte.
use Rattle.std.proofs.Common.{◌≡◌, ℕ, suc, ◌+◌, ◌<◌, ◌≤◌, List, ◌∷◌, length, map, drop, drop-cons, add-one, get_or, nat_eq, Bool, true, false, refl, ap, ◌∙◌, sym}
use Rattle.std.specs.Str.{bytes_eq}
use Rattle.std.proofs.lemmas.Bool.{false_from_ne_true}
use Rattle.std.proofs.lemmas.List.{drop_all, length-map}
use Rattle.std.proofs.lemmas.Slice.Eq.{bytes_eq-Decides}
use Rattle.pdb_stacks.specs.ModuleNames.{folded}

-- two names are equal as they are compared
abbrev pub alike : List ℕ → List ℕ → Bool
alike a b = bytes_eq (map folded a) (map folded b)

one_alike : (x y : ℕ) (xs ys : List ℕ) → nat_eq (folded x) (folded y) ≡ true → alike (x ∷ xs) (y ∷ ys) ≡ alike xs ys
one_alike x y xs ys e = rw e refl

one_apart : (x y : ℕ) (xs ys : List ℕ) → nat_eq (folded x) (folded y) ≡ false → alike (x ∷ xs) (y ∷ ys) ≡ false
one_apart x y xs ys e = rw e refl

pub past : (a b : List ℕ) (i : ℕ) → i < length a → i < length b → nat_eq (folded (get_or a i 0)) (folded (get_or b i 0)) ≡ true → alike (drop i a) (drop i b) ≡ alike (drop (i + 1) a) (drop (i + 1) b)
past a b i la lb e = rw (drop-cons a i 0 la, drop-cons b i 0 lb, add-one) (one_alike (get_or a i 0) (get_or b i 0) (drop (suc i) a) (drop (suc i) b) e)

pub apart : (a b : List ℕ) (i : ℕ) → i < length a → i < length b → nat_eq (folded (get_or a i 0)) (folded (get_or b i 0)) ≡ false → alike (drop i a) (drop i b) ≡ false
apart a b i la lb e = rw (drop-cons a i 0 la, drop-cons b i 0 lb) (one_apart (get_or a i 0) (get_or b i 0) (drop (suc i) a) (drop (suc i) b) e)

pub ended : (a b : List ℕ) (i : ℕ) → length a ≤ i → length b ≤ i → alike (drop i a) (drop i b) ≡ true
ended a b i la lb = rw (drop_all i a la, drop_all i b lb) refl

-- names of two lengths
pub lengths : (a b : List ℕ) → (length a ≡ length b → ⊥) → alike a b ≡ false
lengths a b apart =
    false_from_ne_true (alike a b) (λ e. apart (sym (length-map a folded) ∙ ap length ((bytes_eq-Decides (map folded a) (map folded b)).0 e) ∙ length-map b folded))
