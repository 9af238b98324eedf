-- How many bytes of a path stand up to its last slash, by what is left of the path.
use Rattle.std.proofs.Common.{◌≡◌, ◌<◌, ◌+◌, ℕ, suc, List, [], ◌∷◌, length, drop, drop-cons, add-one, get_or, Bool, true, false, refl, arith}
use Rattle.std.specs.Prelude.{if◌then◌else◌}
use Rattle.std.specs.List.{list_any}
use Rattle.pdb_paths.specs.ImagePaths.{folder_size, is_slash}

-- the size, where i bytes stand before what is left, and the last slash before it ends the first k
abbrev pub size_by : List ℕ → ℕ → ℕ → ℕ
size_by rest i k = if list_any is_slash rest then i + folder_size rest else k

whole_by : (b : ℕ) (bs : List ℕ) (some : Bool) → list_any is_slash (b ∷ bs) ≡ some → folder_size (b ∷ bs) ≡ size_by (b ∷ bs) 0 0
unfolding folder_size
whole_by b bs true e = rw e (grind arith)
whole_by b bs false e = rw e refl

pub whole : (bs : List ℕ) → folder_size bs ≡ size_by bs 0 0
unfolding folder_size
whole [] = refl
whole (b ∷ bs) = whole_by b bs (list_any is_slash (b ∷ bs)) refl

slash_by : (b : ℕ) (bs : List ℕ) (i k : ℕ) (some : Bool) → is_slash b ≡ true → list_any is_slash bs ≡ some → size_by (b ∷ bs) i k ≡ size_by bs (suc i) (suc i)
unfolding folder_size
slash_by b bs i k true e h = rw (e, h) (grind arith)
slash_by b [] i k false e h = rw e (grind arith)
slash_by b (c ∷ cs) i k false e h = rw (e, h) (grind arith)

other_by : (b : ℕ) (bs : List ℕ) (i k : ℕ) (some : Bool) → is_slash b ≡ false → list_any is_slash bs ≡ some → size_by (b ∷ bs) i k ≡ size_by bs (suc i) k
unfolding folder_size
other_by b bs i k true e h = rw (e, h) (grind arith)
other_by b bs i k false e h = rw (e, h) refl

-- the same of the rest of a path from a position on
pub past_slash : (path : List ℕ) (i k : ℕ) → i < length path → is_slash (get_or path i 0) ≡ true → size_by (drop i path) i k ≡ size_by (drop (i + 1) path) (i + 1) (i + 1)
past_slash path i k h e = rw (add-one, drop-cons path i 0 h) (slash_by (get_or path i 0) (drop (suc i) path) i k (list_any is_slash (drop (suc i) path)) e refl)

pub past_other : (path : List ℕ) (i k : ℕ) → i < length path → is_slash (get_or path i 0) ≡ false → size_by (drop i path) i k ≡ size_by (drop (i + 1) path) (i + 1) k
past_other path i k h e = rw (add-one, drop-cons path i 0 h) (other_by (get_or path i 0) (drop (suc i) path) i k (list_any is_slash (drop (suc i) path)) e refl)
