-- Runs of bytes of a kind, by one step.
use Rattle.std.proofs.Common.{◌≡◌, ℕ, zero, suc, ◌+◌, ◌-◌, ◌<◌, ◌≤◌, List, length, max, get_or, nat_lt, Bool, true, false, ◌⊎◌, inl, inr, refl, subst, arith, ltb-true, ltb-false}
use Rattle.std.proofs.lemmas.List.Sums.{prefix_len-drop_all, prefix_len-drop_no, prefix_len-drop_yes}
use Rattle.pdb_stacks.specs.LineBytes.{is_of, run_before, run_end}
use Rattle.pdb_stacks.specs.declared.bytes.Kind.{Kind}

-- ---- forward

pub run_stops : (kind : Kind) (line : List ℕ) (i : ℕ) → i < length line → is_of kind (get_or line i 0) ≡ false → run_end kind line i ≡ i
unfolding run_end
run_stops kind line i h e = let none = prefix_len-drop_no (is_of kind) line i 0 h e in omega (arith, none)

pub run_goes_on : (kind : Kind) (line : List ℕ) (i : ℕ) → i < length line → is_of kind (get_or line i 0) ≡ true → run_end kind line i ≡ run_end kind line (i + 1)
unfolding run_end
run_goes_on kind line i h e = let one = prefix_len-drop_yes (is_of kind) line i 0 h e in omega (arith, one)

pub run_is_over : (kind : Kind) (line : List ℕ) (i : ℕ) → length line ≤ i → run_end kind line i ≡ i
unfolding run_end
run_is_over kind line i h = let none = prefix_len-drop_all (is_of kind) line i h in omega (arith, none)

either_by : (a b : ℕ) (less : Bool) → nat_lt a b ≡ less → (a < b) ⊎ (b ≤ a)
either_by a b true e = inl (ltb-true a b e)
either_by a b false e = inr (ltb-false a b e)

pub either : (a b : ℕ) → (a < b) ⊎ (b ≤ a)
either a b = either_by a b (nat_lt a b) refl

run_ends_by : (kind : Kind) (line : List ℕ) (from at : ℕ) → (from < length line) ⊎ (length line ≤ from) → run_end kind line from ≡ run_end kind line at
    → length line ≤ at → (from ≤ length line → at ≤ length line) → run_end kind line from ≡ max from (length line)
run_ends_by kind line from at (inl lt) e behind within =
    let is = run_is_over kind line at behind in
    let same = within (omega (arith, lt)) in
    omega (arith, e, is, same, behind, lt)
run_ends_by kind line from at (inr le) e behind within = let is = run_is_over kind line from le in omega (arith, is, le)

-- behind the last byte
pub run_ends : (kind : Kind) (line : List ℕ) (from at : ℕ) → run_end kind line from ≡ run_end kind line at
    → length line ≤ at → (from ≤ length line → at ≤ length line) → run_end kind line from ≡ max from (length line)
run_ends kind line from at e behind within = run_ends_by kind line from at (either from (length line)) e behind within

-- ---- back

back_by : (kind : Kind) (line : List ℕ) (n k : ℕ) → suc k ≡ n → is_of kind (get_or line k 0) ≡ true → run_before kind line n ≡ run_before kind line k
unfolding run_before
back_by kind line zero k e h = absurd (omega (arith, e))
back_by kind line (suc n) k e h = let same : k ≡ n = omega (arith, e) in subst (λ m. run_before kind line (suc m) ≡ run_before kind line k) same (rw h refl)

stop_by : (kind : Kind) (line : List ℕ) (n k : ℕ) → suc k ≡ n → is_of kind (get_or line k 0) ≡ false → run_before kind line n ≡ n
unfolding run_before
stop_by kind line zero k e h = absurd (omega (arith, e))
stop_by kind line (suc n) k e h = let same : k ≡ n = omega (arith, e) in subst (λ m. run_before kind line (suc m) ≡ suc m) same (rw h refl)

pub back_goes_on : (kind : Kind) (line : List ℕ) (n : ℕ) → 0 < n → is_of kind (get_or line (n - 1) 0) ≡ true → run_before kind line n ≡ run_before kind line (n - 1)
back_goes_on kind line n h e = back_by kind line n (n - 1) (omega arith) e

pub back_stops : (kind : Kind) (line : List ℕ) (n : ℕ) → 0 < n → is_of kind (get_or line (n - 1) 0) ≡ false → run_before kind line n ≡ n
back_stops kind line n h e = stop_by kind line n (n - 1) (omega arith) e

pub back_is_over : (kind : Kind) (line : List ℕ) (n : ℕ) → n ≤ 0 → run_before kind line n ≡ 0
unfolding run_before
back_is_over kind line zero h = refl
back_is_over kind line (suc n) h = absurd (omega (arith, h))
