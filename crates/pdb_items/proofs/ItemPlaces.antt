-- The places of records, and the items that are found by them.
use Rattle.std.proofs.Common.{◌≡◌, ℕ, zero, suc, ◌+◌, ◌-◌, ◌<◌, ◌≤◌, Bool, true, false, cond, List, [], ◌∷◌, ◌++◌, length, get_or, map, take, drop, Some, None, Result, Ok, Err, refl, sym, ap, ◌∙◌, append_assoc, arith}
use Rattle.std.specs.Prelude.{nat_lt, ◌==◌, option_map, if◌then◌else◌}
use Rattle.std.specs.List.{find}
use Rattle.std.specs.Option.{option_map_or}
use Rattle.std.proofs.lemmas.Bool.{lt-ltb}
use Rattle.std.proofs.lemmas.Bool.Decides.{nat_tests}
use Rattle.std.proofs.lemmas.List.{append-nil}
use Rattle.pdb_base.specs.declared.error.Error.{Error}
use Rattle.pdb_base.specs.Fields.{number, number_at, bytes_at}
use Rattle.pdb_base.specs.Reading.{given}
use Rattle.pdb_base.specs.Tiling.{listing, items_of, tiles, tiling}
use Rattle.pdb_base.proofs.Numbers.{length_bytes}
use Rattle.pdb_base.proofs.Places.{bind_ok, number_is, slice_is}
use Rattle.pdb_base.proofs.Readings.{row_inside}
use Rattle.pdb_base.proofs.Tilings.{tiling_piece, tiling_stop}
use Rattle.pdb_items.specs.Items.{ItemEntry, behind_length, record_at, record_length, records, numbered, item_with, first_index, item_records_of, items_in, known_items_in}
use Rattle.pdb_items.proofs.ItemLists.{records_within, guard_ok}

-- the places of the records from p on
abbrev pub places_from : List ℕ → ℕ → List ℕ
places_from b p = map (λ (t : ℕ × ℕ). t.0) (tiling records b p)

pub no_places : places_from [] 0 ≡ []
unfolding tiling
no_places = refl

-- ---- the loop over places

pub one_more_place : (b front all : List ℕ) (p k : ℕ) → records.piece b p ≡ Some k → front ++ places_from b p ≡ all → (front ++ p ∷ []) ++ places_from b (p + k) ≡ all
one_more_place b front all p k e so_far =
    let first = ap (λ (ts : List (ℕ × ℕ)). front ++ map (λ (t : ℕ × ℕ). t.0) ts) (tiling_piece records (row_inside record_at record_length records_within) b p k e) in
    simp append_assoc (sym first ∙ so_far)

pub all_places : (b front all : List ℕ) (p : ℕ) → records.piece b p ≡ None → front ++ places_from b p ≡ all → front ≡ all
all_places b front all p e so_far =
    let none = ap (λ (ts : List (ℕ × ℕ)). front ++ map (λ (t : ℕ × ℕ). t.0) ts) (tiling_stop records b p e) in
    sym (append-nil front) ∙ sym none ∙ so_far

pub place_moves : (b : List ℕ) (p k : ℕ) → records.piece b p ≡ Some k → (0 < k) × (p + k ≤ length b)
place_moves b p k e = (row_inside record_at record_length records_within).inside b p k e

some_place : (front rest : List ℕ) (p : ℕ) → (front ++ p ∷ []) ++ rest ≡ [] → ⊥
some_place [] rest p e = cc
some_place (x ∷ xs) rest p e = cc

-- where a record stands, the places are not none
pub one_is_some : (b front : List ℕ) (p k : ℕ) → records.piece b p ≡ Some k → front ++ places_from b p ≡ [] → ⊥
one_is_some b front p k e none = some_place front _ p (one_more_place b front [] p k e none)

-- ---- what stands at the places

abbrev StandAt : List ℕ → List ℕ → List (List ℕ) → Type 0
StandAt b [] [] = Unit {0}
StandAt b (p ∷ ps) (s ∷ ss) = (record_at b p ≡ Ok s) × StandAt b ps ss
StandAt b ps ss = ⊥

one_stands : (b : List ℕ) (n p : ℕ) (r : Result (List ℕ) Error) → record_at b p ≡ r → ((q : ℕ) → StandAt b (map (λ (t : ℕ × ℕ). t.0) (tiles records b n q)) (items_of records b (tiles records b n q)))
    → StandAt b (map (λ (t : ℕ × ℕ). t.0) (option_map_or (λ k. (p, k) ∷ tiles records b n (p + k)) (option_map (record_length p) (given r)) [])) (items_of records b (option_map_or (λ k. (p, k) ∷ tiles records b n (p + k)) (option_map (record_length p) (given r)) []))
one_stands b n p (Ok s) e rest = rw e (e, rest (p + record_length p s))
one_stands b n p (Err d) e rest = tt

tiles_stand : (b : List ℕ) (n p : ℕ) → StandAt b (map (λ (t : ℕ × ℕ). t.0) (tiles records b n p)) (items_of records b (tiles records b n p))
tiles_stand b zero p = tt
tiles_stand b (suc n) p = one_stands b n p (record_at b p) refl (λ q. tiles_stand b n q)

same_count : (b ps : List ℕ) (ss : List (List ℕ)) → StandAt b ps ss → length ps ≡ length ss
same_count b [] [] h = refl
same_count b [] (s ∷ ss) h = absurd h
same_count b (p ∷ ps) [] h = absurd h
same_count b (p ∷ ps) (s ∷ ss) h = ap suc (same_count b ps ss h.1)

stands : (b ps : List ℕ) (ss : List (List ℕ)) (k : ℕ) → StandAt b ps ss → k < length ps → record_at b (get_or ps k 0) ≡ Ok (get_or ss k [])
stands b [] [] k h lt = absurd (omega arith)
stands b [] (s ∷ ss) k h lt = absurd h
stands b (p ∷ ps) [] k h lt = absurd h
stands b (p ∷ ps) (s ∷ ss) zero h lt = h.0
stands b (p ∷ ps) (s ∷ ss) (suc k) h lt = stands b ps ss k h.1 (omega arith)

pub places_count : (b : List ℕ) → length (places_from b 0) ≡ length (listing records b 0).items
unfolding listing tiling
places_count b = same_count b _ _ (tiles_stand b (length b - 0) 0)

pub place_stands : (b : List ℕ) (k : ℕ) → k < length (places_from b 0) → record_at b (get_or (places_from b 0) k 0) ≡ Ok (get_or (listing records b 0).items k [])
unfolding listing tiling
place_stands b k lt = stands b _ _ k (tiles_stand b (length b - 0) 0) lt

-- ---- no items

empty_of : (xs : List ℕ) → length xs ≡ 0 → xs ≡ []
empty_of [] e = refl
empty_of (x ∷ xs) e = absurd (omega (arith, e))

none_numbered : (i : ℕ) (ss : List (List ℕ)) → i < 0x100000000 → numbered i ss ≡ [] → ss ≡ []
none_numbered i [] lt e = refl
none_numbered i (s ∷ ss) lt e = let some = rw (lt-ltb i 0x100000000 lt) at e in absurd cc

-- without items before the fault there are no places
pub no_items_no_places : (stream b : List ℕ) → item_records_of stream ≡ Ok b → first_index stream < 0x100000000 → known_items_in stream ≡ Ok [] → places_from b 0 ≡ []
unfolding items_in known_items_in
no_items_no_places stream b e lt none =
    let known : ◌≡◌ {A = Result (List ItemEntry) Error} (Ok (numbered (first_index stream) (listing records b 0).items)) (Ok []) = rw e at none in
    let items : numbered (first_index stream) (listing records b 0).items ≡ [] = cc in
    empty_of (places_from b 0) (places_count b ∙ ap length (none_numbered (first_index stream) _ lt items))

pub kept_place : (b places : List ℕ) (k : ℕ) → places ≡ places_from b 0 → k < length places → record_at b (get_or places k 0) ≡ Ok (get_or (listing records b 0).items k [])
kept_place b places k e lt = rw e (place_stands b k (rw e at lt))

pub kept_count : (b places : List ℕ) → places ≡ places_from b 0 → length places ≡ length (listing records b 0).items
kept_count b places e = rw e (places_count b)

-- a record that can be read lies inside the bytes, and is these
pub record_there : (b : List ℕ) (p : ℕ) (s : List ℕ) → record_at b p ≡ Ok s → (p + 2 ≤ length b) × (p + 2 + number b p 2 ≤ length b) × (s ≡ take (number b p 2) (drop (p + 2) b)) × (2 ≤ length s)
unfolding record_at
record_there b p s e =
    let (n, e1, rest) = bind_ok (number_at b p 2) (λ n. behind_length n b p) s e in
    let tested = guard_ok (nat_lt n 2) _ (bytes_at b (p + 2) n) s rest in
    let is = number_is b p 2 n e1 in
    let slice = slice_is b (p + 2) n s tested.1 in
    let low = tested.0 in
    let size = length_bytes b (p + 2) n s tested.1 in
    let long : 2 ≤ n = grind (arith, nat_tests) in
    rw (← is.value) (is.there, slice.there, slice.value, omega (arith, size, long))

-- ---- finding

abbrev has_index : ℕ → ItemEntry → Bool
has_index i = λ (x : ItemEntry). x.index == i

differs : (f i : ℕ) → (f ≡ i → ⊥) → (f == i) ≡ false
differs f i h = grind (arith, nat_tests)

same : (f i : ℕ) → f ≡ i → (f == i) ≡ true
same f i h = grind (arith, nat_tests)

-- the first item has another index
passed : (f i : ℕ) (s : List ℕ) (rest : List ItemEntry) → (f ≡ i → ⊥) → find (has_index i) rest ≡ None → find (has_index i) (if nat_lt f 0x100000000 then record { index = f; bytes = s } ∷ rest else []) ≡ None
passed f i s rest differ none = by_test (nat_lt f 0x100000000)
  where
    by_test : (t : Bool) → find (has_index i) (cond t (record { index = f; bytes = s } ∷ rest) []) ≡ None
    by_test true = rw (differs f i differ) none
    by_test false = refl

pub none_before : (f i : ℕ) (ss : List (List ℕ)) → i < f → item_with (numbered f ss) i ≡ None
none_before f i [] lt = refl
none_before f i (s ∷ ss) lt = passed f i s (numbered (f + 1) ss) (λ e. omega (arith, e)) (none_before (f + 1) i ss (omega arith))

pub none_behind : (f i : ℕ) (ss : List (List ℕ)) → f + length ss ≤ i → item_with (numbered f ss) i ≡ None
none_behind f i [] le = refl
none_behind f i (s ∷ ss) le = passed f i s (numbered (f + 1) ss) (λ e. omega (arith, e)) (none_behind (f + 1) i ss (omega arith))

pub found_at : (f i k : ℕ) (ss : List (List ℕ)) → i < 0x100000000 → i ≡ f + k → k < length ss → item_with (numbered f ss) i ≡ Some (record { index = i; bytes = get_or ss k [] })
found_at f i k [] small e lt = absurd (omega arith)
found_at f i zero (s ∷ ss) small e lt =
    let at : f ≡ i = omega arith in
    rw (lt-ltb f 0x100000000 (omega arith), same f i at) (ap (λ (n : ℕ). Some (record { index = n; bytes = s })) at)
found_at f i (suc k) (s ∷ ss) small e lt =
    rw (lt-ltb f 0x100000000 (omega arith), differs f i (λ q. omega (arith, q))) (found_at (f + 1) i k ss small (omega arith) (omega arith))
