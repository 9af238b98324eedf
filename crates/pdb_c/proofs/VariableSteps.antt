-- Variables that are put one after another.
use Rattle.std.proofs.Common.{◌≡◌, ℕ, ◌+◌, List, [], ◌∷◌, ◌++◌, map, length, sym, ap, ◌∙◌, arith, length-append}
use Rattle.pdb_variables.specs.VariableViews.{shown_location, shown_variable}
use Rattle.pdb_variables.specs.declared.variables.VariableAt.{VariableAt}
use Rattle.pdb_c.specs.Rooms.{put}
use Rattle.pdb_c.specs.declared.variables.PdbVariable.{PdbVariable}
use Rattle.pdb_c.specs.declared.frames.PdbAddress.{PdbAddress}
use Rattle.pdb_c.specs.VariableRows.{located_rows, variable_rows, variable_names, variables_asked, names_asked, all_variable_rows, all_variable_names}
use Rattle.pdb_c.proofs.Putting.{put_next}

-- ---- the parts of one variable

pub parts_next : {X Y : Type 0} (f : X → Y) (left others : List X) (count more : ℕ) (x : X) (rows after all : List Y) → left ≡ x ∷ others → after ≡ put count (f x ∷ []) rows → more ≡ count + 1 → put count (map f left) rows ≡ all → put more (map f others) after ≡ all
parts_next {X = X} f left others count more x rows after all e put_one counted so_far =
    put_next count more (f x ∷ []) (map f others) rows after put_one counted
    ∙ ap (λ (xs : List X). put count (map f xs) rows) (sym e)
    ∙ so_far

pub parts_counted : {X : Type 0} (left others : List X) (count more all : ℕ) (x : X) → left ≡ x ∷ others → more ≡ count + 1 → count + length left ≡ all → more + length others ≡ all
parts_counted {X = X} left others count more all x e counted so_far =
    let one : length left ≡ length (x ∷ others) = ap (λ (xs : List X). length xs) e in
    omega (arith, one, counted, so_far)

-- ---- the variables of one address

abbrev located : ℕ → ℕ → VariableAt → List PdbVariable
located k size x = located_rows k size (shown_variable x) (shown_location x.location)

abbrev name : VariableAt → List ℕ
name x = (shown_variable x).name

pub variables_next : (k : ℕ) (left others : List VariableAt) (count more size behind : ℕ) (x : VariableAt) (rows after all : List PdbVariable) → left ≡ x ∷ others → after ≡ put count (located k size x) rows → more ≡ count + length (located k size x) → behind ≡ size + length (name x) → put count (variable_rows k size (map shown_variable left)) rows ≡ all → put more (variable_rows k behind (map shown_variable others)) after ≡ all
variables_next k left others count more size behind x rows after all e put_one counted on so_far =
    put_next count more (located k size x) (variable_rows k behind (map shown_variable others)) rows after put_one counted
    ∙ ap (λ (s : ℕ). put count (located k size x ++ variable_rows k s (map shown_variable others)) rows) on
    ∙ ap (λ (vs : List VariableAt). put count (variable_rows k size (map shown_variable vs)) rows) (sym e)
    ∙ so_far

pub variables_counted : (k : ℕ) (left others : List VariableAt) (count more size behind all : ℕ) (x : VariableAt) → left ≡ x ∷ others → more ≡ count + length (located k size x) → behind ≡ size + length (name x) → count + length (variable_rows k size (map shown_variable left)) ≡ all → more + length (variable_rows k behind (map shown_variable others)) ≡ all
variables_counted k left others count more size behind all x e counted on so_far =
    let rest = variable_rows k (size + length (name x)) (map shown_variable others) in
    let both : length (variable_rows k size (map shown_variable left)) ≡ length (located k size x) + length rest = ap (λ (vs : List VariableAt). length (variable_rows k size (map shown_variable vs))) e ∙ length-append (located k size x) rest in
    let behind_it : length (variable_rows k behind (map shown_variable others)) ≡ length rest = ap (λ (s : ℕ). length (variable_rows k s (map shown_variable others))) on in
    omega (arith, both, behind_it, counted, so_far)

pub names_next : (left others : List VariableAt) (size behind : ℕ) (x : VariableAt) (names after all : List ℕ) → left ≡ x ∷ others → after ≡ put size (name x) names → behind ≡ size + length (name x) → put size (variable_names (map shown_variable left)) names ≡ all → put behind (variable_names (map shown_variable others)) after ≡ all
names_next left others size behind x names after all e put_one on so_far =
    put_next size behind (name x) (variable_names (map shown_variable others)) names after put_one on
    ∙ ap (λ (vs : List VariableAt). put size (variable_names (map shown_variable vs)) names) (sym e)
    ∙ so_far

pub sizes_next : (left others : List VariableAt) (size behind all : ℕ) (x : VariableAt) → left ≡ x ∷ others → behind ≡ size + length (name x) → size + length (variable_names (map shown_variable left)) ≡ all → behind + length (variable_names (map shown_variable others)) ≡ all
sizes_next left others size behind all x e on so_far =
    let both : length (variable_names (map shown_variable left)) ≡ length (name x) + length (variable_names (map shown_variable others)) =
    ap (λ (vs : List VariableAt). length (variable_names (map shown_variable vs))) e ∙ length-append (name x) (variable_names (map shown_variable others)) in
    omega (arith, both, on, so_far)

-- ---- the variables of all addresses

pub all_rows_next : (file : List ℕ) (k : ℕ) (left others : List PdbAddress) (count more size behind : ℕ) (a : PdbAddress) (rows after all : List PdbVariable) → left ≡ a ∷ others → after ≡ put count (variable_rows k size (variables_asked file a)) rows → more ≡ count + length (variable_rows k size (variables_asked file a)) → behind ≡ size + length (names_asked file a) → put count (all_variable_rows file k size left) rows ≡ all → put more (all_variable_rows file (k + 1) behind others) after ≡ all
all_rows_next file k left others count more size behind a rows after all e put_one counted on so_far =
    let here = variable_rows k size (variables_asked file a) in
    put_next count more here (all_variable_rows file (k + 1) behind others) rows after put_one counted
    ∙ ap (λ (s : ℕ). put count (here ++ all_variable_rows file (k + 1) s others) rows) on
    ∙ ap (λ (asked : List PdbAddress). put count (all_variable_rows file k size asked) rows) (sym e)
    ∙ so_far

pub all_counts_next : (file : List ℕ) (k : ℕ) (left others : List PdbAddress) (count more size behind all : ℕ) (a : PdbAddress) → left ≡ a ∷ others → more ≡ count + length (variable_rows k size (variables_asked file a)) → behind ≡ size + length (names_asked file a) → count + length (all_variable_rows file k size left) ≡ all → more + length (all_variable_rows file (k + 1) behind others) ≡ all
all_counts_next file k left others count more size behind all a e counted on so_far =
    let here = variable_rows k size (variables_asked file a) in
    let rest = all_variable_rows file (k + 1) (size + length (names_asked file a)) others in
    let both : length (all_variable_rows file k size left) ≡ length here + length rest = ap (λ (asked : List PdbAddress). length (all_variable_rows file k size asked)) e ∙ length-append here rest in
    let behind_it : length (all_variable_rows file (k + 1) behind others) ≡ length rest = ap (λ (s : ℕ). length (all_variable_rows file (k + 1) s others)) on in
    omega (arith, both, behind_it, counted, so_far)

pub all_names_next : (file : List ℕ) (left others : List PdbAddress) (size behind : ℕ) (a : PdbAddress) (names after all : List ℕ) → left ≡ a ∷ others → after ≡ put size (names_asked file a) names → behind ≡ size + length (names_asked file a) → put size (all_variable_names file left) names ≡ all → put behind (all_variable_names file others) after ≡ all
all_names_next file left others size behind a names after all e put_one on so_far =
    put_next size behind (names_asked file a) (all_variable_names file others) names after put_one on
    ∙ ap (λ (asked : List PdbAddress). put size (all_variable_names file asked) names) (sym e)
    ∙ so_far

pub all_sizes_next : (file : List ℕ) (left others : List PdbAddress) (size behind all : ℕ) (a : PdbAddress) → left ≡ a ∷ others → behind ≡ size + length (names_asked file a) → size + length (all_variable_names file left) ≡ all → behind + length (all_variable_names file others) ≡ all
all_sizes_next file left others size behind all a e on so_far =
    let both : length (all_variable_names file left) ≡ length (names_asked file a) + length (all_variable_names file others) =
    ap (λ (asked : List PdbAddress). length (all_variable_names file asked)) e ∙ length-append (names_asked file a) (all_variable_names file others) in
    omega (arith, both, on, so_far)
