-- Gaps in the order of their starts leave the pieces that the same gaps leave as they are listed.
use Rattle.std.proofs.Common.{◌≡◌, ℕ, zero, suc, ◌+◌, ◌-◌, ◌<◌, ◌≤◌, inl, inr, Bool, true, false, cond, not, ◌||◌, List, [], ◌∷◌, ◌++◌, get_or, refl, sym, ap, ◌∙◌, arith, Result, Ok, Err, OnOk}
use Rattle.std.specs.Prelude.{All, min, max, nat_lt}
use Rattle.std.specs.List.{list_any}
use Rattle.std.specs.List.Sorted.{IsNonDecreasingBy, IsPermutation}
use Rattle.std.proofs.lemmas.Bool.{cases_lt}
use Rattle.std.proofs.lemmas.Bool.Decides.{nat_tests}
use Rattle.std.proofs.lemmas.List.Folds.{list_any_none}
use Rattle.std.proofs.lemmas.List.Sorted.{All-permutation, IsPermutation-sym}
use Rattle.pdb_records.specs.declared.lists.AddressGap.{AddressGap}
use Rattle.pdb_records.specs.declared.pieces.Piece.{Piece}
use Rattle.pdb_records.specs.PieceOrder.{start_of}
use Rattle.pdb_records.specs.RangePieces.{is_in, is_held, run_to, pieces_from, pieces_of, run_between, end_in, runs_between}

-- ---- runs of bytes that are held, and of bytes that aren't

abbrev AllHeld : List AddressGap → Bool → ℕ → ℕ → Type 0
AllHeld gaps b from to = (j : ℕ) → from ≤ j → j < to → is_held gaps j ≡ b

held_run : (gaps : List AddressGap) (k n i m : ℕ) → AllHeld gaps true i (i + k) → pieces_from gaps n i (k + m) ≡ pieces_from gaps (n + k) (i + k) m
held_run gaps zero n i m h =
    let a : n ≡ n + 0 = omega arith in let b : i ≡ i + 0 = omega arith in let e : 0 + m ≡ m = omega arith in
    ap (λ (x : ℕ). pieces_from gaps n i x) e ∙ ap (λ (x : ℕ). pieces_from gaps x i m) a ∙ ap (λ (x : ℕ). pieces_from gaps (n + 0) x m) b
held_run gaps (suc k) n i m h =
    let e : suc k + m ≡ suc (k + m) = omega arith in
    ap (λ (x : ℕ). pieces_from gaps n i x) e
    ∙ (ap (λ (b : Bool). cond b (pieces_from gaps (suc n) (i + 1) (k + m)) (run_to i n ++ pieces_from gaps 0 (i + 1) (k + m))) (h i (omega arith) (omega arith))
    ∙ (held_run gaps k (suc n) (i + 1) m (λ j l u. h j (omega arith) (omega arith))
    ∙ (let a : suc n + k ≡ n + suc k = omega arith in let b : i + 1 + k ≡ i + suc k = omega arith in
    ap (λ (x : ℕ). pieces_from gaps x (i + 1 + k) m) a ∙ ap (λ (x : ℕ). pieces_from gaps (n + suc k) x m) b)))

first_run : (gaps : List AddressGap) (k i m : ℕ) → AllHeld gaps true i (i + k) → pieces_from gaps 0 i (k + m) ≡ pieces_from gaps k (i + k) m
first_run gaps k i m h = held_run gaps k 0 i m h ∙ (let e : 0 + k ≡ k = omega arith in ap (λ (x : ℕ). pieces_from gaps x (i + k) m) e)

gap_run : (gaps : List AddressGap) (k i m : ℕ) → AllHeld gaps false i (i + k) → pieces_from gaps 0 i (k + m) ≡ pieces_from gaps 0 (i + k) m
gap_run gaps zero i m h =
    let b : i ≡ i + 0 = omega arith in let e : 0 + m ≡ m = omega arith in
    ap (λ (x : ℕ). pieces_from gaps 0 i x) e ∙ ap (λ (x : ℕ). pieces_from gaps 0 x m) b
gap_run gaps (suc k) i m h =
    let e : suc k + m ≡ suc (k + m) = omega arith in
    ap (λ (x : ℕ). pieces_from gaps 0 i x) e
    ∙ (ap (λ (b : Bool). cond b (pieces_from gaps 1 (i + 1) (k + m)) (pieces_from gaps 0 (i + 1) (k + m))) (h i (omega arith) (omega arith))
    ∙ (gap_run gaps k (i + 1) m (λ j l u. h j (omega arith) (omega arith))
    ∙ (let b : i + 1 + k ≡ i + suc k = omega arith in ap (λ (x : ℕ). pieces_from gaps 0 x m) b)))

-- before a byte that isn't held the run ends
run_ends : (gaps : List AddressGap) (n i m : ℕ) → is_held gaps i ≡ false → pieces_from gaps n i (suc m) ≡ run_to i n ++ pieces_from gaps 0 i (suc m)
run_ends gaps n i m h =
    ap (λ (b : Bool). cond b (pieces_from gaps (suc n) (i + 1) m) (run_to i n ++ pieces_from gaps 0 (i + 1) m)) h
    ∙ ap (λ (xs : List Piece). run_to i n ++ xs) (sym (ap (λ (b : Bool). cond b (pieces_from gaps 1 (i + 1) m) (pieces_from gaps 0 (i + 1) m)) h))

-- ---- which bytes gaps have

gap_has : (i : ℕ) (g : AddressGap) → g.start ≤ i → i < g.start + g.len → is_in i g ≡ true
gap_has i g from before = grind (arith, nat_tests)

gap_ends : (i : ℕ) (g : AddressGap) → g.start + g.len ≤ i → is_in i g ≡ false
gap_ends i g behind = grind (arith, nat_tests)

gap_starts : (i : ℕ) (g : AddressGap) → i < g.start → is_in i g ≡ false
gap_starts i g before = grind (arith, nat_tests)

held_by_others : (g : AddressGap) (gs : List AddressGap) (i : ℕ) → is_in i g ≡ false → is_held (g ∷ gs) i ≡ is_held gs i
held_by_others g gs i h = ap (λ (b : Bool). not (b || list_any (is_in i) gs)) h

held_by_none : (g : AddressGap) (gs : List AddressGap) (i : ℕ) → is_in i g ≡ true → is_held (g ∷ gs) i ≡ false
held_by_none g gs i h = ap (λ (b : Bool). not (b || list_any (is_in i) gs)) h

held_before : (gs : List AddressGap) (i : ℕ) → All (λ g. i < g.start) gs → is_held gs i ≡ true
held_before gs i h = ap not (list_any_none (is_in i) gs (λ k d l. gap_starts i (get_or gs k d) (h k d l)))

-- ---- gaps that are in order

abbrev Rises : List AddressGap → Type 0
Rises = IsNonDecreasingBy start_of

rises_behind : (g : AddressGap) (gs : List AddressGap) → Rises (g ∷ gs) → Rises gs
rises_behind g gs up i j d le l = up (suc i) (suc j) d (omega arith) (omega arith)

all_before : (g : AddressGap) (gs : List AddressGap) (i : ℕ) → Rises (g ∷ gs) → i < g.start → All (λ h. i < h.start) (g ∷ gs)
all_before g gs i up before k d l = let from = up 0 k d (omega arith) l in omega arith

-- the gaps have the same bytes from one byte up to another
abbrev Agree : List AddressGap → List AddressGap → ℕ → ℕ → Type 0
Agree gaps gs from to = (i : ℕ) → from ≤ i → i < to → is_held gaps i ≡ is_held gs i

-- what is left at a byte: the run up to the next gap, and then what is left there
up_to_gap : (gaps : List AddressGap) (n i m : ℕ) → (0 < m → is_held gaps i ≡ false) → pieces_from gaps n i m ≡ run_to i n ++ pieces_from gaps 0 i m
up_to_gap gaps n i zero h = grind (arith)
up_to_gap gaps n i (suc m) h = run_ends gaps n i m (h (omega arith))

-- ---- one gap more

-- bytes from one up to another before the next gap's start are held
to_start : (gaps : List AddressGap) (g : AddressGap) (gs : List AddressGap) (len at : ℕ) → at ≤ len → Rises (g ∷ gs) → Agree gaps (g ∷ gs) at len → 0 < g.len
    → pieces_from gaps 0 at (len - at) ≡ run_between at (min g.start len) ++ pieces_from gaps 0 (max at (min g.start len)) (len - max at (min g.start len))
to_start gaps g gs len at le up agree some = elim (cases_lt at (min g.start len)) [
  | inl before ↦ (
      let s : ℕ = min g.start len in
      let held : AllHeld gaps true at (at + (s - at)) = λ j l u. agree j l (omega arith) ∙ held_before (g ∷ gs) j (all_before g gs j up (omega arith)) in
      let whole : len - at ≡ (s - at) + (len - s) = omega arith in
      let to : at + (s - at) ≡ s = omega arith in
      let top : max at s ≡ s = omega arith in
      let ends : 0 < len - s → is_held gaps s ≡ false = λ more. agree s (omega arith) (omega arith) ∙ held_by_none g gs s (gap_has s g (omega arith) (omega arith)) in
      ap (λ (m : ℕ). pieces_from gaps 0 at m) whole
      ∙ (first_run gaps (s - at) at (len - s) held
      ∙ (ap (λ (i : ℕ). pieces_from gaps (s - at) i (len - s)) to
      ∙ (up_to_gap gaps (s - at) s (len - s) ends
      ∙ ap (λ (i : ℕ). run_between at s ++ pieces_from gaps 0 i (len - i)) (sym top)))))
  | inr behind ↦ (
      let s : ℕ = min g.start len in
      let none : s - at ≡ 0 = omega arith in
      let top : max at s ≡ at = omega arith in
      sym (ap (λ (n : ℕ). run_to s n ++ pieces_from gaps 0 (max at s) (len - max at s)) none ∙ ap (λ (i : ℕ). pieces_from gaps 0 i (len - i)) top))
]

-- bytes of the gap are passed
over_gap : (gaps : List AddressGap) (g : AddressGap) (gs : List AddressGap) (len at : ℕ) → at ≤ len → Agree gaps (g ∷ gs) at len
    → pieces_from gaps 0 (max at (min g.start len)) (len - max at (min g.start len)) ≡ pieces_from gaps 0 (max at (end_in len g)) (len - max at (end_in len g))
over_gap gaps g gs len at le agree =
    let from : ℕ = max at (min g.start len) in
    let to : ℕ = max at (min (g.start + g.len) len) in
    let whole : len - from ≡ (to - from) + (len - to) = omega arith in
    let end : from + (to - from) ≡ to = omega arith in
    let passed : AllHeld gaps false from (from + (to - from)) = λ j l u. agree j (omega arith) (omega arith) ∙ held_by_none g gs j (gap_has j g (omega arith) (omega arith)) in
    ap (λ (m : ℕ). pieces_from gaps 0 from m) whole
    ∙ (gap_run gaps (to - from) from (len - to) passed
    ∙ ap (λ (i : ℕ). pieces_from gaps 0 i (len - to)) end)

-- ---- all gaps

runs_by : (gaps : List AddressGap) (g : AddressGap) (gs : List AddressGap) (len at : ℕ) (b : Bool) → nat_lt 0 g.len ≡ b → at ≤ len → Rises (g ∷ gs) → Agree gaps (g ∷ gs) at len
    → ((from : ℕ) → from ≤ len → Agree gaps gs from len → runs_between len from gs ≡ pieces_from gaps 0 from (len - from))
    → cond b (run_between at (min g.start len) ++ runs_between len (max at (end_in len g)) gs) (runs_between len at gs) ≡ pieces_from gaps 0 at (len - at)
runs_by gaps g gs len at true some le up agree rest =
    let bytes : 0 < g.len = grind (arith, nat_tests) in
    let next : ℕ = max at (end_in len g) in
    let behind : Agree gaps gs next len = λ i l u. agree i (omega arith) u ∙ held_by_others g gs i (gap_ends i g (omega arith)) in
    ap (λ (xs : List Piece). run_between at (min g.start len) ++ xs) (rest next (omega arith) behind ∙ sym (over_gap gaps g gs len at le agree))
    ∙ sym (to_start gaps g gs len at le up agree bytes)
runs_by gaps g gs len at false none le up agree rest =
    let empty : g.len ≡ 0 = grind (arith, nat_tests) in
    rest at le (λ i l u. agree i l u ∙ held_by_others g gs i (no_byte i empty))
  where
    no_byte : (i : ℕ) → g.len ≡ 0 → is_in i g ≡ false
    no_byte i empty = grind (arith, nat_tests)

runs_are : (gaps : List AddressGap) (gs : List AddressGap) (len at : ℕ) → at ≤ len → Rises gs → Agree gaps gs at len → runs_between len at gs ≡ pieces_from gaps 0 at (len - at)
runs_are gaps [] len at le up agree =
    let held : AllHeld gaps true at (at + (len - at)) = λ j l u. agree j l (omega arith) in
    let whole : len - at ≡ (len - at) + 0 = omega arith in
    let end : at + (len - at) ≡ len = omega arith in
    sym (ap (λ (m : ℕ). pieces_from gaps 0 at m) whole
    ∙ (first_run gaps (len - at) at 0 held
    ∙ ap (λ (i : ℕ). run_to i (len - at)) end))
runs_are gaps (g ∷ gs) len at le up agree = runs_by gaps g gs len at (nat_lt 0 g.len) refl le up agree (λ from l a. runs_are gaps gs len from l (rises_behind g gs up) a)

-- ---- the same gaps in another order

none_by : (i : ℕ) (gs : List AddressGap) (b : Bool) → list_any (is_in i) gs ≡ b → b ≡ false → All (λ g. is_in i g ≡ false) gs
none_by i gs b e f = none_of gs (e ∙ f)
  where
    none_of : (gs : List AddressGap) → list_any (is_in i) gs ≡ false → All (λ g. is_in i g ≡ false) gs
    none_of [] h k d l = absurd (omega arith)
    none_of (g ∷ gs) h zero d l = grind (arith)
    none_of (g ∷ gs) h (suc k) d l = none_of gs (grind (arith)) k d (omega arith)

no_gap : (i : ℕ) (xs ys : List AddressGap) → IsPermutation xs ys → list_any (is_in i) xs ≡ false → list_any (is_in i) ys ≡ false
no_gap i xs ys s h = list_any_none (is_in i) ys (All-permutation (λ g. is_in i g ≡ false) xs ys s (none_by i xs _ h refl))

same_by : (i : ℕ) (xs ys : List AddressGap) (b c : Bool) → list_any (is_in i) xs ≡ b → list_any (is_in i) ys ≡ c → (b ≡ false → c ≡ false) → (c ≡ false → b ≡ false) → b ≡ c
same_by i xs ys true true e f g h = refl
same_by i xs ys false false e f g h = refl
same_by i xs ys true false e f g h = h refl
same_by i xs ys false true e f g h = sym (g refl)

same_gaps : (xs ys : List AddressGap) → IsPermutation xs ys → (i : ℕ) → is_held xs i ≡ is_held ys i
same_gaps xs ys s i = ap not (same_by i xs ys _ _ refl refl (no_gap i xs ys s) (no_gap i ys xs (IsPermutation-sym xs ys s)))

sorted_runs : (gaps sorted : List AddressGap) (len : ℕ) → IsNonDecreasingBy start_of sorted → IsPermutation gaps sorted → runs_between len 0 sorted ≡ pieces_of len gaps
unfolding pieces_of
sorted_runs gaps sorted len up s =
    let e : len - 0 ≡ len = omega arith in
    runs_are gaps sorted len 0 (omega arith) up (λ i l u. same_gaps gaps sorted s i) ∙ ap (pieces_from gaps 0 0) e

-- runs that were put behind no others are the pieces
pub found_runs : {E : Type 0} (r : Result (Unit {0}) E) (old new : List Piece) (gaps before sorted : List AddressGap) (len : ℕ)
    → OnOk r (new ≡ old ++ runs_between len 0 sorted) → old ≡ [] → IsNonDecreasingBy start_of sorted → IsPermutation before sorted → before ≡ gaps → OnOk r (new ≡ pieces_of len gaps)
found_runs (Ok x) old new gaps before sorted len e none up s same =
    e ∙ (ap (λ (xs : List Piece). xs ++ runs_between len 0 sorted) none ∙ (sorted_runs before sorted len up s ∙ ap (pieces_of len) same))
found_runs (Err x) old new gaps before sorted len e none up s same = tt
