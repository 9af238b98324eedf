-- What is found at the first of some offsets, by one step.
use Rattle.std.proofs.Common.{◌≡◌, ℕ, suc, ◌+◌, ◌<◌, ◌≤◌, List, ◌∷◌, length, drop, drop-cons, add-one, get_or, Option, Some, None, refl}
use Rattle.std.proofs.lemmas.List.{drop_all}
use Rattle.pdb_stacks.specs.LineTexts.{first_found}

one_past : {X : Type 0} (look : ℕ → Option X) (i b : ℕ) (rest : List ℕ) → look i ≡ None → first_found look i (b ∷ rest) ≡ first_found look (i + 1) rest
one_past look i b rest e = rw e refl

one_found : {X : Type 0} (look : ℕ → Option X) (i b : ℕ) (rest : List ℕ) (x : X) → look i ≡ Some x → first_found look i (b ∷ rest) ≡ Some x
one_found look i b rest x e = rw e refl

pub past : {X : Type 0} (look : ℕ → Option X) (line : List ℕ) (i : ℕ) → i < length line → look i ≡ None → first_found look i (drop i line) ≡ first_found look (i + 1) (drop (i + 1) line)
past look line i h e = rw (drop-cons line i 0 h, add-one) (rw add-one at (one_past look i (get_or line i 0) (drop (suc i) line) e))

pub found : {X : Type 0} (look : ℕ → Option X) (line : List ℕ) (i : ℕ) (x : X) → i < length line → look i ≡ Some x → first_found look i (drop i line) ≡ Some x
found look line i x h e = rw (drop-cons line i 0 h) (one_found look i (get_or line i 0) (drop (suc i) line) x e)

pub found_none : {X : Type 0} (look : ℕ → Option X) (line : List ℕ) (i : ℕ) → length line ≤ i → first_found look i (drop i line) ≡ None
found_none look line i h = rw (drop_all i line h) refl
