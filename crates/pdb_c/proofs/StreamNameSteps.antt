-- Names of streams that are added one after another.
use Rattle.std.proofs.Common.{◌≡◌, ℕ, ◌+◌, List, [], ◌∷◌, ◌++◌, length, map, sym, ap, ◌∙◌, arith, length-append}
use Rattle.std.proofs.lemmas.List.{map-append, flat_map_more}
use Rattle.pdb.specs.Names.{Name}
use Rattle.pdb_c.specs.StreamNameRows.{name_row, name_rows, names_bytes}
use Rattle.pdb_c.specs.declared.stream_names.PdbStreamName.{PdbStreamName}

-- one more name has its row behind the others, and its bytes behind theirs
pub one_more_row : (at : ℕ) (ns : List Name) (n : Name) → name_rows at (ns ++ n ∷ []) ≡ name_rows at ns ++ name_row (at + length (names_bytes ns)) n ∷ []
one_more_row at [] n = let here : at ≡ at + 0 = omega arith in ap (λ (k : ℕ). name_row k n ∷ []) here
one_more_row at (m ∷ ns) n =
    let both = length-append m.name (names_bytes ns) in
    let there : at + length m.name + length (names_bytes ns) ≡ at + length (m.name ++ names_bytes ns) = omega (arith, both) in
    ap (λ (rows : List PdbStreamName). name_row at m ∷ rows) (one_more_row (at + length m.name) ns n ∙ ap (λ (k : ℕ). name_rows (at + length m.name) ns ++ name_row k n ∷ []) there)

-- what was seen, and one more
pub one_more : {X Y Z : Type 0} (f : Y → Z) (g : X → Y) (seen : List X) (x : X) → map f (map g (seen ++ x ∷ [])) ≡ map f (map g seen) ++ f (g x) ∷ []
one_more f g seen x = ap (map f) (map-append g seen (x ∷ [])) ∙ map-append f (map g seen) (g x ∷ [])

pub rows_next : (ns more : List Name) (n : Name) (rows after : List PdbStreamName) (bytes : List ℕ) → more ≡ ns ++ n ∷ [] → after ≡ rows ++ name_row (length bytes) n ∷ [] → rows ≡ name_rows 0 ns → bytes ≡ names_bytes ns → after ≡ name_rows 0 more
rows_next ns more n rows after bytes e added so_far bytes_so_far =
    let there : length bytes ≡ 0 + length (names_bytes ns) = ap (λ (b : List ℕ). length b) bytes_so_far ∙ omega arith in
    added
    ∙ ap (λ (rs : List PdbStreamName). rs ++ name_row (length bytes) n ∷ []) so_far
    ∙ ap (λ (k : ℕ). name_rows 0 ns ++ name_row k n ∷ []) there
    ∙ sym (one_more_row 0 ns n)
    ∙ ap (λ (names : List Name). name_rows 0 names) (sym e)

pub bytes_next : (ns more : List Name) (n : Name) (bytes after : List ℕ) → more ≡ ns ++ n ∷ [] → after ≡ bytes ++ n.name → bytes ≡ names_bytes ns → after ≡ names_bytes more
bytes_next ns more n bytes after e added so_far =
    added
    ∙ ap (λ (b : List ℕ). b ++ n.name) so_far
    ∙ flat_map_more (λ m. m.name) [] ns n
    ∙ ap (λ (names : List Name). names_bytes names) (sym e)
