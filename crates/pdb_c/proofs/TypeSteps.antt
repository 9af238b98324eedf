-- Names of types that are added one after another.
use Rattle.std.proofs.Common.{◌≡◌, ℕ, ◌+◌, List, [], ◌∷◌, ◌++◌, length, map, sym, ap, ◌∙◌, length-append, append_assoc}
use Rattle.pdb_c.specs.TypeRows.{joined, type_name_row, type_name_rows}
use Rattle.pdb_c.specs.declared.type_names.PdbTypeName.{PdbTypeName}

-- one more name has its row behind the others
pub rows_next : (text : ℕ → List ℕ) (left others : List ℕ) (i : ℕ) (rows after all : List PdbTypeName) (bytes more : List ℕ) → left ≡ i ∷ others → after ≡ rows ++ type_name_row (length bytes) (text i) ∷ [] → more ≡ bytes ++ text i → rows ++ type_name_rows (length bytes) (map text left) ≡ all → after ++ type_name_rows (length more) (map text others) ≡ all
rows_next text left others i rows after all bytes more e added grown so_far =
    let row = type_name_row (length bytes) (text i) in
    let size : length more ≡ length bytes + length (text i) = ap (λ (b : List ℕ). length b) grown ∙ length-append bytes (text i) in
    ap (λ (rs : List PdbTypeName). rs ++ type_name_rows (length more) (map text others)) added
    ∙ append_assoc rows (row ∷ []) (type_name_rows (length more) (map text others))
    ∙ ap (λ (k : ℕ). rows ++ row ∷ type_name_rows k (map text others)) size
    ∙ ap (λ (is : List ℕ). rows ++ type_name_rows (length bytes) (map text is)) (sym e)
    ∙ so_far

-- and its bytes behind theirs
pub bytes_next : (text : ℕ → List ℕ) (left others : List ℕ) (i : ℕ) (bytes more all : List ℕ) → left ≡ i ∷ others → more ≡ bytes ++ text i → bytes ++ joined (map text left) ≡ all → more ++ joined (map text others) ≡ all
bytes_next text left others i bytes more all e grown so_far =
    ap (λ (b : List ℕ). b ++ joined (map text others)) grown
    ∙ append_assoc bytes (text i) (joined (map text others))
    ∙ ap (λ (is : List ℕ). bytes ++ joined (map text is)) (sym e)
    ∙ so_far
