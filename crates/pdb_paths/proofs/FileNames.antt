-- The name of a file in a path, by what is left of the path.
use Rattle.std.proofs.Common.{◌≡◌, ℕ, suc, ◌+◌, ◌<◌, List, [], ◌∷◌, length, drop, drop-cons, add-one, get_or, Bool, true, false, refl, sym, ◌∙◌}
use Rattle.std.specs.Prelude.{if◌then◌else◌}
use Rattle.std.specs.List.{list_any}
use Rattle.pdb_paths.specs.FileNames.{file_name, is_separator}

-- the name of a path of which this is left, and which else is the name so far
abbrev pub behind : List ℕ → List ℕ → List ℕ
behind rest own = if list_any is_separator rest then file_name rest else own

whole_by : (b : ℕ) (bs : List ℕ) (some : Bool) → list_any is_separator (b ∷ bs) ≡ some → behind (b ∷ bs) (b ∷ bs) ≡ file_name (b ∷ bs)
unfolding file_name
whole_by b bs true e = rw e refl
whole_by b bs false e = rw e refl

pub whole : (bs : List ℕ) → behind bs bs ≡ file_name bs
unfolding file_name
whole [] = refl
whole (b ∷ bs) = whole_by b bs (list_any is_separator (b ∷ bs)) refl

separated : (b : ℕ) (bs own : List ℕ) → list_any is_separator (b ∷ bs) ≡ true → behind (b ∷ bs) own ≡ file_name bs
unfolding file_name
separated b bs own e = rw e refl

-- behind a separator the name begins anew
pub at_separator : (b : ℕ) (bs own : List ℕ) → is_separator b ≡ true → behind (b ∷ bs) own ≡ behind bs bs
at_separator b bs own e =
    let some : list_any is_separator (b ∷ bs) ≡ true = rw e refl in
    separated b bs own some ∙ sym (whole bs)

other_by : (b : ℕ) (bs own : List ℕ) (some : Bool) → is_separator b ≡ false → list_any is_separator bs ≡ some → behind (b ∷ bs) own ≡ behind bs own
unfolding file_name
other_by b bs own true e any = rw (e, any) refl
other_by b bs own false e any = rw (e, any) refl

pub at_other : (b : ℕ) (bs own : List ℕ) → is_separator b ≡ false → behind (b ∷ bs) own ≡ behind bs own
at_other b bs own e = other_by b bs own (list_any is_separator bs) e refl

-- the same of the rest of a path from a position on
pub past_separator : (path own : List ℕ) (i : ℕ) → i < length path → is_separator (get_or path i 0) ≡ true → behind (drop i path) own ≡ behind (drop (i + 1) path) (drop (i + 1) path)
past_separator path own i h e = rw (add-one, drop-cons path i 0 h) (at_separator (get_or path i 0) (drop (suc i) path) own e)

pub past_other : (path own : List ℕ) (i : ℕ) → i < length path → is_separator (get_or path i 0) ≡ false → behind (drop i path) own ≡ behind (drop (i + 1) path) own
past_other path own i h e = rw (add-one, drop-cons path i 0 h) (at_other (get_or path i 0) (drop (suc i) path) own e)
