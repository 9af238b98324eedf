-- Files that have what is held.
use Rattle.std.proofs.Common.{◌≡◌, ℕ, zero, suc, ◌+◌, ◌-◌, ◌<◌, ◌≤◌, ⊎_elim, true, List, [], ◌∷◌, length, get_or, take, drop, refl, sym, ap, arith, Option, Some, None}
use Rattle.std.specs.Bool.{Decides}
use Rattle.std.specs.List.Sorted.{IsNonDecreasingBy}
use Rattle.std.specs.List.{All, AllPairs, AllWithin, list_all, insert}
use Rattle.std.proofs.lemmas.Bool.{cases_lt, leb-true, le-leb}
use Rattle.std.proofs.lemmas.Bool.Decides.{Decides-eqb, Decides-and, Decides-like, Decides-by_and}
use Rattle.std.proofs.lemmas.Bool.Decides.{nat_tests}
use Rattle.std.proofs.lemmas.Slice.Eq.{bytes_eq-Decides}
use Rattle.std.proofs.lemmas.List.{length-take, length-drop}
use Rattle.std.proofs.lemmas.Grind.{common_steps}
use Rattle.std.proofs.lemmas.List.Elements.{All-nil, All-cons, All-head, All-tail, All-take, All-drop, All-append}
use Rattle.std.proofs.lemmas.List.Kept.{AllPairs-cons}
use Rattle.pdb_base.specs.declared.source.SourceSlice.{SourceSlice}
use Rattle.pdb_base.specs.Source.{is_inside}
use Rattle.pdb_base.proofs.Views.{list_all_get}
use Rattle.pdb_file.specs.declared.run.Run.{Run}
use Rattle.pdb_file.specs.HeldBytes.{Kept, IsRunOf, IsOf, end_of, IsBefore, IsKept, IsWith, IsAllHeld, IsWholeHeld, has_run, has_all, knows, is_inside_of}

later : (r : Run) (rs : List Run) → AllPairs IsBefore (r ∷ rs) → All (IsBefore r) rs
later r rs h = λ k d lt. h 0 (suc k) d (omega arith) (omega (arith, lt))

rest : (r : Run) (rs : List Run) → AllPairs IsBefore (r ∷ rs) → AllPairs IsBefore rs
rest r rs h = λ i j d lt within. h (suc i) (suc j) d (omega (arith, lt)) (omega (arith, within))

has_run_decides : (file : List ℕ) (r : Run) → Decides (has_run file r) (IsRunOf file r)
unfolding has_run
has_run_decides file r =
    Decides-like _ (λ h. record { fits = h.0; same = h.1 }) (λ p. (p.fits, p.same))
    (Decides-and _ _ (leb-true (end_of r) (length file), le-leb (end_of r) (length file)) (bytes_eq-Decides (take (length r.bytes.now) (drop r.at file)) r.bytes.now))

has_all_decides : (file : List ℕ) (k : Kept) → Decides (has_all file k) (IsOf file k)
unfolding has_all
has_all_decides file k =
    Decides-like _ (λ h. record { size = h.0; agrees = h.1 }) (λ p. (p.size, p.agrees))
    (Decides-and _ _ (Decides-eqb (length file) k.size) (Decides-by_and (has_run file) (IsRunOf file) (list_all (has_run file)) (has_run_decides file) refl (λ x xs. refl) k.runs))

-- the bytes that are known are these
pub knows_is : (o : Option (List ℕ)) (file : List ℕ) → knows o file ≡ true → o ≡ Some file
unfolding knows
knows_is None file h = absurd cc
knows_is (Some bytes) file h = ap Some ((bytes_eq-Decides bytes file).0 h)

-- a file that has what is held stays one, and none other comes to be
pub told_before : (file : List ℕ) (old new : Kept) → (IsOf file new → IsOf file old) → has_all file new ≡ true → has_all file old ≡ true
told_before file old new kept h = (has_all_decides file old).1 (kept ((has_all_decides file new).0 h))

pub has_known : (file : List ℕ) (k : Kept) → IsOf file k → has_all file k ≡ true
has_known file k h = (has_all_decides file k).1 h

pub of_told : (file : List ℕ) (k : Kept) → has_all file k ≡ true → IsOf file k
of_told file k h = (has_all_decides file k).0 h

-- slices that lie in a file are held whole where all is that the file has
pub wholly : (k : Kept) (ss : List SourceSlice) → list_all (is_inside_of k.size) ss ≡ true → All (IsAllHeld k) ss → All (IsWholeHeld k) ss
wholly k ss inside all = λ i d lt at low high.
    let one = list_all_get (is_inside_of k.size) ss i d inside lt in
    all i d lt at low (grind (arith, nat_tests, high))

-- ---- one run more

pairs_insert : (xs : List Run) (i : ℕ) (r : Run) → AllPairs IsBefore xs → All (λ x. IsBefore x r) (take i xs) → All (IsBefore r) (drop i xs) → AllPairs IsBefore (insert xs i r)
pairs_insert xs zero r h front back = AllPairs-cons IsBefore r xs back h
pairs_insert [] (suc i) r h front back = AllPairs-cons IsBefore r [] (All-nil (IsBefore r)) h
pairs_insert (x ∷ xs) (suc i) r h front back =
    let behind = later x xs h in
    let all : All (IsBefore x) (insert xs i r) = All-append (IsBefore x) (take i xs) (r ∷ drop i xs) (All-take (IsBefore x) i xs behind) (All-cons (IsBefore x) r (drop i xs) (All-head (λ y. IsBefore y r) x (take i xs) front) (All-drop (IsBefore x) i xs behind)) in
    AllPairs-cons IsBefore x (insert xs i r) all (pairs_insert xs i r (rest x xs h) (All-tail (λ y. IsBefore y r) x (take i xs) front) back)

all_insert : (P : Run → Type 0) (xs : List Run) (i : ℕ) (r : Run) → All P xs → P r → All P (insert xs i r)
all_insert P xs i r h p = All-append P (take i xs) (r ∷ drop i xs) (All-take P i xs h) (All-cons P r (drop i xs) p (All-drop P i xs h))

fewer : (P : Run → Type 0) (xs : List Run) (i : ℕ) (r : Run) → All P (insert xs i r) → All P xs
fewer P xs zero r h = All-tail P r xs h
fewer P [] (suc i) r h = All-nil P
fewer P (x ∷ xs) (suc i) r h = All-cons P x xs (All-head P x (insert xs i r) h) (fewer P xs i r (All-tail P x (insert xs i r) h))

same_le : (n : ℕ) → n ≤ n
same_le n = omega arith

same_place : (i : ℕ) → i + zero ≡ i
same_place i = omega arith

pub before_last : (xs : List Run) (i k : ℕ) (d r : Run) → k < i → i ≤ length xs → AllPairs IsBefore xs → IsBefore (get_or xs (i - 1) d) r → IsBefore (get_or xs k d) r
before_last xs i k d r small le h end = ⊎_elim
    (λ less. let b = h k (i - 1) d less (omega (arith, small, le)) in omega (arith, b, end))
    (λ more. let same : k ≡ i - 1 = omega (arith, small, more) in rw same end)
    (cases_lt k (i - 1))

pub behind_next : (xs : List Run) (i k : ℕ) (d r : Run) → i + k < length xs → AllPairs IsBefore xs → IsBefore r (get_or xs i d) → IsBefore r (get_or xs (i + k) d)
behind_next xs i zero d r small h start = rw (same_place i) start
behind_next xs i (suc k) d r small h start = let b = h i (i + suc k) d (omega arith) small in omega (arith, b, start)

before_it : (xs : List Run) (i : ℕ) (r : Run) → AllPairs IsBefore xs → i ≤ length xs → ((d : Run) → 0 < i → i ≤ length xs → IsBefore (get_or xs (i - 1) d) r) → All (λ x. IsBefore x r) (take i xs)
before_it xs i r h le last = λ k d lt.
    let small : k < i = omega (arith, lt, length-take i xs) in
    let there : get_or (take i xs) k d ≡ get_or xs k d = grind (arith, common_steps) in
    let end = last d (omega (arith, small)) le in
    rw there (before_last xs i k d r small le h end)

behind_it : (xs : List Run) (i : ℕ) (r : Run) → AllPairs IsBefore xs → ((d : Run) → i < length xs → IsBefore r (get_or xs i d)) → All (IsBefore r) (drop i xs)
behind_it xs i r h next = λ k d lt.
    let small : i + k < length xs = omega (arith, lt, length-drop i xs) in
    let there : get_or (drop i xs) k d ≡ get_or xs (i + k) d = grind (arith, common_steps) in
    rw there (behind_next xs i k d r small h (next d (omega (arith, small))))

pub with_kept : (k : Kept) (i : ℕ) (r : Run) → IsKept k → 0 < length r.bytes.now → end_of r ≤ k.size → i ≤ length k.runs
    → ((d : Run) → 0 < i → i ≤ length k.runs → IsBefore (get_or k.runs (i - 1) d) r) → ((d : Run) → i < length k.runs → IsBefore r (get_or k.runs i d))
    → IsKept (record { size = k.size; runs = insert k.runs i r })
with_kept k i r h filled fits le last next = record {
  filled = all_insert (λ r. 0 < length r.bytes.now) k.runs i r h.filled filled;
  fits = all_insert (λ r. end_of r ≤ k.size) k.runs i r h.fits fits;
  order = pairs_insert k.runs i r h.order (before_it k.runs i r h.order le last) (behind_it k.runs i r h.order next);
}

pub with_agrees : (file : List ℕ) (k : Kept) (r : Run) (n : Kept) → IsWith k r n → IsOf file k → IsRunOf file r → IsOf file n
with_agrees file k r n w h p = rw w.2 record {
  size = h.size;
  agrees = all_insert (IsRunOf file) k.runs w.0 r h.agrees p;
}

pub without_agrees : (file : List ℕ) (k : Kept) (r : Run) (n : Kept) → IsWith k r n → IsOf file n → IsOf file k
without_agrees file k r n w h =
    let o = rw w.2 at h in
    record { size = o.size; agrees = fewer (IsRunOf file) k.runs w.0 r o.agrees }

pub inside_same : (file : List ℕ) (n : ℕ) (ss : List SourceSlice) → length file ≡ n → list_all (is_inside_of n) ss ≡ list_all (is_inside file) ss
inside_same file n ss e = ap (λ (m : ℕ). list_all (is_inside_of m) ss) (sym e)

pub rising : (k : Kept) → IsKept k → IsNonDecreasingBy (λ (r : Run). r.at) k.runs
rising k h i j d le lt = ⊎_elim
    (λ less. let b = h.order i j d less lt in omega (arith, b))
    (λ more. let same : i ≡ j = omega (arith, le, more) in rw same (same_le _))
    (cases_lt i j)

-- the first run behind a place begins before the others there
pub first_behind : (k : Kept) (at n i : ℕ) → IsKept k → AllWithin (λ r. r.at ≤ at) k.runs 0 i → ((d : Run) → n ≤ (get_or k.runs i d).at) → All (λ r. at < r.at → n ≤ r.at) k.runs
first_behind k at n i h front le = λ j d lt behind. ⊎_elim
    (λ less. let b = front j d (omega arith) less in absurd (omega (arith, b, behind)))
    (λ more. let rises = rising k h i j d more lt in omega (arith, rises, le d))
    (cases_lt j i)
