-- The nearest mark stays the nearest up to itself.
use Rattle.std.proofs.Common.{◌≡◌, ℕ, zero, suc, ◌+◌, ◌-◌, ◌<◌, ◌≤◌, List, length, max, Bool, true, false, ◌||◌, Some, None, ◌⊎◌, inl, inr, refl, ap, ◌∙◌, sym, subst, arith}
use Rattle.std.specs.Prelude.{is_some}
use Rattle.pdb_stacks.proofs.Finds.{found, found_none, past}
use Rattle.pdb_stacks.proofs.RunSteps.{either}
use Rattle.pdb_stacks.specs.HexTexts.{offset_at}
use Rattle.pdb_stacks.specs.SymbolMarks.{is_stop, mark_at, nearest}

mark_by : (line : List ℕ) (i : ℕ) (there : Bool) → (is_stop line i || is_some (offset_at line i)) ≡ there → (mark_at line i ≡ Some i) ⊎ (mark_at line i ≡ None)
unfolding mark_at
mark_by line i true e = inl (rw e refl)
mark_by line i false e = inr (rw e refl)

-- a mark that is found is where it was looked for
mark_is : (line : List ℕ) (i : ℕ) → (mark_at line i ≡ Some i) ⊎ (mark_at line i ≡ None)
mark_is line i = mark_by line i (is_stop line i || is_some (offset_at line i)) refl

here : (line : List ℕ) (i : ℕ) → i < length line → mark_at line i ≡ Some i → nearest line i ≡ i
unfolding nearest
here line i h e = rw (found (mark_at line) line i i h e) refl

over : (line : List ℕ) (i : ℕ) → length line ≤ i → nearest line i ≡ max i (length line)
unfolding nearest
over line i h = rw (found_none (mark_at line) line i h) refl

same_max : (i n : ℕ) → i < n → max i n ≡ max (i + 1) n
same_max i n h = omega arith

gone : (line : List ℕ) (i : ℕ) → i < length line → mark_at line i ≡ None → nearest line i ≡ nearest line (i + 1)
unfolding nearest
gone line i h e = rw (past (mark_at line) line i h e, same_max i (length line) h) refl

inside : (line : List ℕ) (i : ℕ) → i < length line → (mark_at line i ≡ Some i) ⊎ (mark_at line i ≡ None) → i < nearest line i → nearest line i ≡ nearest line (i + 1)
inside line i h (inl e) lt = let is = here line i h e in absurd (omega (arith, is, lt))
inside line i h (inr e) lt = gone line i h e

next_by : (line : List ℕ) (i : ℕ) → i < nearest line i → (i < length line) ⊎ (length line ≤ i) → nearest line i ≡ nearest line (i + 1)
next_by line i lt (inl h) = inside line i h (mark_is line i) lt
next_by line i lt (inr h) = let is = over line i h in absurd (omega (arith, is, lt))

next : (line : List ℕ) (i : ℕ) → i < nearest line i → nearest line i ≡ nearest line (i + 1)
next line i lt = next_by line i lt (either i (length line))

on_by : (line : List ℕ) (i d : ℕ) → i + d ≤ nearest line i → nearest line (i + d) ≡ nearest line i
on_by line i zero h = ap (nearest line) (omega arith)
on_by line i (suc d) h =
    let so_far = on_by line i d (omega (arith, h)) in
    let step = next line (i + d) (omega (arith, h, so_far)) in
    let same : i + suc d ≡ i + d + 1 = omega arith in
    ap (nearest line) same ∙ sym step ∙ so_far

pub stays : (line : List ℕ) (i j : ℕ) → i ≤ j → j ≤ nearest line i → nearest line j ≡ nearest line i
stays line i j le h =
    let there : i + (j - i) ≡ j = omega (arith, le) in
    subst (λ k. nearest line k ≡ nearest line i) there (on_by line i (j - i) (omega (arith, le, h)))

pub at_end : (line : List ℕ) → nearest line (length line) ≡ length line
at_end line = let is = over line (length line) (omega arith) in omega (arith, is)
