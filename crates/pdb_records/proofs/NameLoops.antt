-- Loops that pass names, and the lists that are lent.
use Rattle.std.proofs.Common.{◌≡◌, ℕ, zero, suc, ◌+◌, ◌-◌, ◌<◌, ◌≤◌, Bool, true, false, List, [], ◌∷◌, length, drop, Result, Ok, Err, refl, sym, ap, ◌∙◌, arith, length-drop, drop-drop}
use Rattle.std.specs.Prelude.{nat_le, position, ◌==◌}
use Rattle.std.proofs.lemmas.Bool.Decides.{nat_tests}
use Rattle.pdb_base.specs.declared.error.Error.{Error}
use Rattle.pdb_base.specs.Refusal.{◌>>=◌}
use Rattle.pdb_base.specs.Fields.{number_at, cstring_at, cut_at}
use Rattle.pdb_base.specs.Layouts.{list_at, cstring, together_at}
use Rattle.pdb_base.proofs.Places.{bind_ok}
use Rattle.pdb_records.specs.RecordLists.{names_from, name_and}
use Rattle.pdb_records.specs.RecordParts.{names_within, names_at, names_counted, names_passed, counted_names_at}
use Rattle.pdb_records.proofs.NameParts.{behind_name, names_one, names_none}

-- ---- bytes of which a front is left out

abbrev cut : List ℕ → Result (List ℕ) Error
cut rest = cut_at rest (position (λ x. x == 0) rest)

cstring_behind : (b : List ℕ) (p q : ℕ) → cstring_at (drop p b) q ≡ cstring_at b (p + q)
unfolding cstring_at
cstring_behind b p q = ap cut (drop-drop q p b)

length_behind : (b : List ℕ) (p q : ℕ) → nat_le (length (drop p b)) q ≡ nat_le (length b) (p + q)
length_behind b p q = let size : length (drop p b) ≡ length b - p = length-drop p b in rw size (grind (arith, nat_tests))

going_behind : (n : ℕ) (b : List ℕ) (p q : ℕ) (r : Result (List ℕ) Error) → ((q : ℕ) → names_within n (drop p b) q ≡ names_within n b (p + q)) → (r >>= behind_name n (drop p b) q) ≡ (r >>= behind_name n b (p + q))
going_behind n b p q (Err e) all = refl
going_behind n b p q (Ok []) all = refl
going_behind n b p q (Ok (c ∷ s)) all =
    let place : p + (q + (length (c ∷ s) + 1)) ≡ p + q + (length (c ∷ s) + 1) = omega arith in
    let is : names_within n (drop p b) (q + (length (c ∷ s) + 1)) ≡ names_within n b (p + q + (length (c ∷ s) + 1)) = all (q + (length (c ∷ s) + 1)) ∙ ap (names_within n b) place in
    ap (λ r. r >>= (λ names. Ok ((c ∷ s) ∷ names))) is

within_behind : (n : ℕ) (b : List ℕ) (p q : ℕ) → names_within n (drop p b) q ≡ names_within n b (p + q)
within_behind zero b p q = refl
within_behind (suc n) b p q = rw (length_behind b p q, cstring_behind b p q, going_behind n b p q (cstring_at b (p + q)) (within_behind n b p)) refl

-- more bytes than there are change nothing
abbrev Same : ℕ → ℕ → List ℕ → Type 0
Same n m b = (q : ℕ) → length b ≤ q + n → length b ≤ q + m → names_within n b q ≡ names_within m b q

going_more : (n m : ℕ) (b : List ℕ) (p : ℕ) (r : Result (List ℕ) Error) → Same n m b → length b ≤ p + suc n → length b ≤ p + suc m → (r >>= behind_name n b p) ≡ (r >>= behind_name m b p)
going_more n m b p (Err e) all h k = refl
going_more n m b p (Ok []) all h k = refl
going_more n m b p (Ok (c ∷ s)) all h k = ap (λ r. r >>= (λ names. Ok ((c ∷ s) ∷ names))) (all (p + (length (c ∷ s) + 1)) (omega arith) (omega arith))

within_more : (n m : ℕ) (b : List ℕ) (p : ℕ) → length b ≤ p + n → length b ≤ p + m → names_within n b p ≡ names_within m b p
within_more zero m b p h k = sym (names_none m b p (omega arith))
within_more (suc n) zero b p h k = names_none (suc n) b p (omega arith)
within_more (suc n) (suc m) b p h k = rw (going_more n m b p (cstring_at b p) (within_more n m b) h k) refl

pub names_behind : (b : List ℕ) (p : ℕ) → names_at (drop p b) 0 ≡ names_at b p
unfolding names_at
names_behind b p =
    let size : length (drop p b) ≡ length b - p = length-drop p b in
    let place : p + 0 ≡ p = omega arith in
    let n : length (drop p b) - 0 ≡ length b - p = omega arith in
    rw n (within_behind (length b - p) b p 0 ∙ ap (λ q. names_within (length b - p) b q) place)

-- ---- the names that were counted are those that are there

abbrev AreCounted : ℕ → List ℕ → Type 0
AreCounted n b = (q : ℕ) (xs : List (List ℕ)) → names_within n b q ≡ Ok xs → names_from (length xs) b q ≡ xs

going_names : (n : ℕ) (b : List ℕ) (p : ℕ) (s x : List ℕ) (xs : List (List ℕ)) → AreCounted n b → cstring_at b p ≡ Ok s → behind_name n b p s ≡ Ok (x ∷ xs) → names_from (length (x ∷ xs)) b p ≡ x ∷ xs
going_names n b p [] x xs all at r = absurd cc
going_names n b p (c ∷ s) x xs all at r =
    let (ys, there, r2) = bind_ok (names_within n b (p + (length (c ∷ s) + 1))) (λ names. Ok ((c ∷ s) ∷ names)) (x ∷ xs) r in
    let head : c ∷ s ≡ x = cc in
    let tail : ys ≡ xs = cc in
    let behind : names_from (length xs) b (p + (length (c ∷ s) + 1)) ≡ xs = all (p + (length (c ∷ s) + 1)) xs (there ∙ ap Ok tail) in
    rw (at, behind) (ap (λ y. y ∷ xs) head)

one_names : (n : ℕ) (b : List ℕ) (p : ℕ) (x : List ℕ) (xs : List (List ℕ)) (t : Bool) → AreCounted n b → names_within (suc n) b p ≡ Ok (x ∷ xs) → nat_le (length b) p ≡ t → names_from (length (x ∷ xs)) b p ≡ x ∷ xs
one_names n b p x xs true all e is =
    let past : length b ≤ p = grind (arith, nat_tests) in
    let q = names_none (suc n) b p past in
    absurd cc
one_names n b p x xs false all e is =
    let before : p < length b = grind (arith, nat_tests) in
    let (s, at, rest) = bind_ok (cstring_at b p) (behind_name n b p) (x ∷ xs) (sym (names_one n b p before) ∙ e) in
    going_names n b p s x xs all at rest

within_names : (n : ℕ) (b : List ℕ) (p : ℕ) (xs : List (List ℕ)) → names_within n b p ≡ Ok xs → names_from (length xs) b p ≡ xs
within_names n b p [] e = refl
within_names zero b p (x ∷ xs) e = absurd cc
within_names (suc n) b p (x ∷ xs) e = one_names n b p x xs (nat_le (length b) p) (within_names n b) e refl

pub counted_is : (b : List ℕ) (p n : ℕ) → names_counted (drop p b) 0 ≡ Ok n → names_at b p ≡ Ok (names_from n (drop p b) 0)
unfolding names_at
counted_is b p n e =
    let (xs, at, same) = bind_ok (names_at (drop p b) 0) (λ names. Ok (length names)) n e in
    let size : length xs ≡ n = cc in
    let is : names_from (length xs) (drop p b) 0 ≡ xs = within_names (length (drop p b) - 0) (drop p b) 0 xs at in
    sym (names_behind b p) ∙ at ∙ ap Ok (sym is ∙ ap (λ k. names_from k (drop p b) 0) size)

counted_fails_of : (r : Result (List (List ℕ)) Error) (e : Error) → (r >>= (λ names. Ok (length names))) ≡ Err e → r ≡ Err e
counted_fails_of (Ok xs) e h = absurd cc
counted_fails_of (Err d) e h = cc

pub counted_fails : (b : List ℕ) (p : ℕ) (e : Error) → names_counted (drop p b) 0 ≡ Err e → names_at b p ≡ Err e
counted_fails b p e h = sym (names_behind b p) ∙ counted_fails_of (names_at (drop p b) 0) e h

-- ---- one turn of the loop that counts

abbrev pub plus : ℕ → Result (List (List ℕ)) Error → Result ℕ Error
plus n read = read >>= (λ names. Ok (n + length names))

plus_one : (n : ℕ) (c : ℕ) (s : List ℕ) (r : Result (List (List ℕ)) Error) → plus n (r >>= (λ names. Ok ((c ∷ s) ∷ names))) ≡ plus (n + 1) r
plus_one n c s (Ok xs) = ap Ok (omega arith)
plus_one n c s (Err e) = refl

step : (b : List ℕ) (p m : ℕ) (s : List ℕ) → length b - p ≡ suc m → cstring_at b p ≡ Ok s → names_at b p ≡ behind_name m b p s
unfolding names_at
step b p m s n at = ap (λ k. names_within k b p) n ∙ names_one m b p (omega arith) ∙ ap (λ r. r >>= behind_name m b p) at

pub one_counted : (b : List ℕ) (p n : ℕ) (s : List ℕ) (total : Result ℕ Error) → plus n (names_at b p) ≡ total → p < length b → cstring_at b p ≡ Ok s → 0 < length s → plus (n + 1) (names_at b (p + (length s + 1))) ≡ total
unfolding names_at
one_counted b p n [] total so_far lt at some = absurd (omega arith)
one_counted b p n (c ∷ s) total so_far lt at some =
    let q : ℕ = p + (length (c ∷ s) + 1) in
    let m : ℕ = length b - p - 1 in
    let fuel : names_within m b q ≡ names_within (length b - q) b q = within_more m (length b - q) b q (omega arith) (omega arith) in
    let is : names_at b p ≡ (names_at b q >>= (λ names. Ok ((c ∷ s) ∷ names))) = step b p m (c ∷ s) (omega arith) at ∙ ap (λ r. r >>= (λ names. Ok ((c ∷ s) ∷ names))) fuel in
    sym (plus_one n c s (names_at b q)) ∙ ap (plus n) (sym is) ∙ so_far

pub empty_counted : (b : List ℕ) (p n : ℕ) (s : List ℕ) (total : Result ℕ Error) → plus n (names_at b p) ≡ total → p < length b → cstring_at b p ≡ Ok s → length s ≡ 0 → total ≡ Ok n
empty_counted b p n [] total so_far lt at none =
    let is : names_at b p ≡ Ok [] = step b p (length b - p - 1) [] (omega arith) at in
    sym so_far ∙ ap (plus n) is ∙ ap Ok (omega arith)
empty_counted b p n (c ∷ s) total so_far lt at none = absurd (omega arith)

pub all_counted : (b : List ℕ) (p n : ℕ) (total : Result ℕ Error) → plus n (names_at b p) ≡ total → length b ≤ p → total ≡ Ok n
unfolding names_at
all_counted b p n total so_far past =
    sym so_far ∙ ap (plus n) (names_none (length b - p) b p past) ∙ ap Ok (omega arith)

step_fails : (b : List ℕ) (p m : ℕ) (e : Error) → length b - p ≡ suc m → cstring_at b p ≡ Err e → names_at b p ≡ Err e
unfolding names_at
step_fails b p m e n at = ap (λ k. names_within k b p) n ∙ names_one m b p (omega arith) ∙ ap (λ r. r >>= behind_name m b p) at

pub counting_fails : (b : List ℕ) (p n : ℕ) (e : Error) (total : Result ℕ Error) → plus n (names_at b p) ≡ total → p < length b → cstring_at b p ≡ Err e → total ≡ Err e
counting_fails b p n e total so_far lt at = sym so_far ∙ ap (plus n) (step_fails b p (length b - p - 1) e (omega arith) at)

-- ---- so many names

abbrev behind_listed : ℕ → List ℕ → ℕ → List ℕ → Result (List (List ℕ)) Error
behind_listed n b p s = list_at cstring n 0 b (p + (length s + 1)) >>= (λ xs. Ok (s ∷ xs))

going_listed : (n : ℕ) (b : List ℕ) (p q : ℕ) (r : Result (List ℕ) Error) → ((q : ℕ) → list_at cstring n 0 (drop p b) q ≡ list_at cstring n 0 b (p + q)) → (r >>= behind_listed n (drop p b) q) ≡ (r >>= behind_listed n b (p + q))
going_listed n b p q (Err e) all = refl
going_listed n b p q (Ok s) all =
    let place : p + (q + (length s + 1)) ≡ p + q + (length s + 1) = omega arith in
    ap (λ r. r >>= (λ xs. Ok (s ∷ xs))) (all (q + (length s + 1)) ∙ ap (list_at cstring n 0 b) place)

listed_behind : (n : ℕ) (b : List ℕ) (p q : ℕ) → list_at cstring n 0 (drop p b) q ≡ list_at cstring n 0 b (p + q)
listed_behind zero b p q = refl
listed_behind (suc n) b p q = ap (λ r. r >>= behind_listed n (drop p b) q) (cstring_behind b p q) ∙ going_listed n b p q (cstring_at b (p + q)) (listed_behind n b p)

listed_names : (n : ℕ) (b : List ℕ) (p : ℕ) (xs : List (List ℕ)) → list_at cstring n 0 b p ≡ Ok xs → names_from n b p ≡ xs
listed_names zero b p xs e = cc
listed_names (suc n) b p xs e =
    let (s, at, rest) = bind_ok (cstring_at b p) (behind_listed n b p) xs e in
    let (ys, there, same) = bind_ok (list_at cstring n 0 b (p + (length s + 1))) (λ xs. Ok (s ∷ xs)) xs rest in
    let is : s ∷ ys ≡ xs = cc in
    rw (at, listed_names n b (p + (length s + 1)) ys there) is

listed_at : (b : List ℕ) (p n : ℕ) (xs : List (List ℕ)) → number_at b p 2 ≡ Ok n → list_at cstring n 0 (drop (p + 2) b) 0 ≡ Ok xs → counted_names_at b p ≡ Ok xs
unfolding together_at
listed_at b p n xs at there =
    let place : p + 2 + 0 ≡ p + 2 = omega arith in
    let is : list_at cstring n 0 b (p + 2) ≡ Ok xs = ap (λ q. list_at cstring n 0 b q) (sym place) ∙ sym (listed_behind n b (p + 2) 0) ∙ there in
    rw (at, is) refl

pub passed_is : (b : List ℕ) (p n : ℕ) → number_at b p 2 ≡ Ok n → names_passed n (drop (p + 2) b) 0 ≡ Ok tt → counted_names_at b p ≡ Ok (names_from n (drop (p + 2) b) 0)
passed_is b p n at e =
    let (xs, there, same) = bind_ok (list_at cstring n 0 (drop (p + 2) b) 0) (λ names. Ok tt) tt e in
    listed_at b p n xs at there ∙ ap Ok (sym (listed_names n (drop (p + 2) b) 0 xs there))

passed_fails_of : (r : Result (List (List ℕ)) Error) (e : Error) → ◌≡◌ {A = Result (Unit {0}) Error} (r >>= (λ names. Ok tt)) (Err e) → r ≡ Err e
passed_fails_of (Ok xs) e h = absurd cc
passed_fails_of (Err d) e h = cc

pub passing_fails : (b : List ℕ) (p n : ℕ) (e : Error) → number_at b p 2 ≡ Ok n → names_passed n (drop (p + 2) b) 0 ≡ Err e → counted_names_at b p ≡ Err e
unfolding together_at
passing_fails b p n e at h =
    let place : p + 2 + 0 ≡ p + 2 = omega arith in
    let there = passed_fails_of (list_at cstring n 0 (drop (p + 2) b) 0) e h in
    let is : list_at cstring n 0 b (p + 2) ≡ Err e = ap (λ q. list_at cstring n 0 b q) (sym place) ∙ sym (listed_behind n b (p + 2) 0) ∙ there in
    rw (at, is) refl

pub count_fails : (b : List ℕ) (p : ℕ) (e : Error) → number_at b p 2 ≡ Err e → counted_names_at b p ≡ Err e
unfolding together_at
count_fails b p e at = rw at refl

-- one turn of the loop that passes them
pub one_passed : (b : List ℕ) (p n i : ℕ) (s : List ℕ) (total : Result (Unit {0}) Error) → names_passed (n - i) b p ≡ total → i < n → cstring_at b p ≡ Ok s → names_passed (n - (i + 1)) b (p + (length s + 1)) ≡ total
one_passed b p n i s total so_far lt at =
    let k : n - i ≡ suc (n - (i + 1)) = omega arith in
    let one : names_passed (n - i) b p ≡ names_passed (n - (i + 1)) b (p + (length s + 1)) = rw (k, at) (drop_one s (list_at cstring (n - (i + 1)) 0 b (p + (length s + 1)))) in
    sym one ∙ so_far
  where
    drop_one : (s : List ℕ) (r : Result (List (List ℕ)) Error) → ◌≡◌ {A = Result (Unit {0}) Error} ((r >>= (λ xs. Ok (s ∷ xs))) >>= (λ names. Ok tt)) (r >>= (λ names. Ok tt))
    drop_one s (Ok xs) = refl
    drop_one s (Err e) = refl

pub passing_stops : (b : List ℕ) (p n i : ℕ) (e : Error) (total : Result (Unit {0}) Error) → names_passed (n - i) b p ≡ total → i < n → cstring_at b p ≡ Err e → total ≡ Err e
passing_stops b p n i e total so_far lt at =
    let k : n - i ≡ suc (n - (i + 1)) = omega arith in
    let one : names_passed (n - i) b p ≡ Err e = rw (k, at) refl in
    sym so_far ∙ one

-- ---- names that are lent

more_names : (n : ℕ) (b : List ℕ) (p : ℕ) (r : Result (List ℕ) Error) → ((q : ℕ) → length (names_from n b q) ≤ n) → length (name_and r (λ s. names_from n b (p + (length s + 1)))) ≤ suc n
more_names n b p (Err e) all = omega arith
more_names n b p (Ok s) all = let fewer = all (p + (length s + 1)) in omega arith

pub no_more_names : (n : ℕ) (b : List ℕ) (p : ℕ) → length (names_from n b p) ≤ n
no_more_names zero b p = omega arith
no_more_names (suc n) b p = more_names n b p (cstring_at b p) (no_more_names n b)

-- a count, and behind it the bytes that are left
pub counted_given : (b : List ℕ) (p n q : ℕ) (c s : List ℕ) → number_at b p 2 ≡ Ok n → c ≡ b → q ≡ p + 2 → ◌≡◌ {A = Result (List ℕ) Error} (Ok (drop q c)) (Ok s) → names_passed n s 0 ≡ Ok tt → counted_names_at b p ≡ Ok (names_from n s 0)
counted_given b p n q c s at same place rest e =
    let is : drop q c ≡ s = cc in
    let behind : drop (p + 2) b ≡ s = rw (← place, ← same) is in
    rw (← behind) (passed_is b p n at (rw behind e))

pub passing_not_given : (b : List ℕ) (p n q : ℕ) (c s : List ℕ) (e : Error) → number_at b p 2 ≡ Ok n → c ≡ b → q ≡ p + 2 → ◌≡◌ {A = Result (List ℕ) Error} (Ok (drop q c)) (Ok s) → names_passed n s 0 ≡ Err e → counted_names_at b p ≡ Err e
passing_not_given b p n q c s e at same place rest h =
    let is : drop q c ≡ s = cc in
    let behind : drop (p + 2) b ≡ s = rw (← place, ← same) is in
    passing_fails b p n e at (rw behind h)

pub names_given : (b : List ℕ) (p n : ℕ) (s : List ℕ) → ◌≡◌ {A = Result (List ℕ) Error} (Ok (drop p b)) (Ok s) → names_counted s 0 ≡ Ok n → names_at b p ≡ Ok (names_from n s 0)
names_given b p n s rest e =
    let is : drop p b ≡ s = cc in
    rw (← is) (counted_is b p n (rw is e))

pub names_not_given : (b : List ℕ) (p : ℕ) (s : List ℕ) (e : Error) → ◌≡◌ {A = Result (List ℕ) Error} (Ok (drop p b)) (Ok s) → names_counted s 0 ≡ Err e → names_at b p ≡ Err e
names_not_given b p s e rest h =
    let is : drop p b ≡ s = cc in
    counted_fails b p e (rw is h)
