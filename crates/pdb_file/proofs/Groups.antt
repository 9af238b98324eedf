-- Slices that are read together.
use Rattle.std.proofs.Common.{◌≡◌, ℕ, ◌+◌, ◌<◌, ◌≤◌, ◌⊎◌, inl, inr, ⊎_elim, List, length, min, get_or, take, arith}
use Rattle.std.specs.List.{All}
use Rattle.std.specs.List.Sorted.{IsNonDecreasingBy, IsPermutation}
use Rattle.std.proofs.lemmas.List.Elements.{All-more}
use Rattle.std.proofs.lemmas.List.Sorted.{All-permutation, IsPermutation-sym}
use Rattle.std.proofs.lemmas.List.{get_or_default, take_all}
use Rattle.pdb_base.specs.declared.source.SourceSlice.{SourceSlice}
use Rattle.pdb_file.specs.HeldBytes.{Kept, AreHeld, IsAllHeld, IsHeldAt}

-- all of a slice is held, or stands between two offsets
abbrev pub IsHeldOrIn : Kept → ℕ → ℕ → SourceSlice → Type 0
IsHeldOrIn k from end s = IsAllHeld k s ⊎ ((from ≤ s.offset) × (min (s.offset + s.size) k.size ≤ end))

-- what stands between them may end behind
pub in_longer : (k : Kept) (from end end' : ℕ) (xs : List SourceSlice) → end ≤ end' → All (IsHeldOrIn k from end) xs → All (IsHeldOrIn k from end') xs
in_longer k from end end' xs le all = λ i d lt. ⊎_elim
    (λ held. inl held)
    (λ stands. inr (stands.0, omega (arith, stands.1, le)))
    (all i d lt)

-- what is held stays held where more is
pub stays : (k n : Kept) (s : SourceSlice) → n.size ≡ k.size → ((at : ℕ) → IsHeldAt k at → IsHeldAt n at) → IsAllHeld k s → IsAllHeld n s
stays k n s size grows held = λ at low high. grows at (held at low (rw size at high))

-- all slices are held once all between the offsets is
pub all_held : (k n : Kept) (from end : ℕ) (xs : List SourceSlice) → n.size ≡ k.size → ((at : ℕ) → IsHeldAt k at → IsHeldAt n at) → AreHeld n from end
    → All (IsHeldOrIn k from end) xs → All (IsAllHeld n) xs
all_held k n from end xs size grows more all = λ i d lt. ⊎_elim
    (λ held. stays k n (get_or xs i d) size grows held)
    (λ stands. λ at low high. more at (omega (arith, stands.0, low)) (omega (arith, stands.1, rw size at high)))
    (all i d lt)

pub held_or_in : (k : Kept) (from end : ℕ) (xs : List SourceSlice) → All (IsAllHeld k) xs → All (IsHeldOrIn k from end) xs
held_or_in k from end xs all = λ i d lt. inl (all i d lt)

pub as_listed : (k : Kept) (old sorted : List SourceSlice) → IsPermutation old sorted → All (IsAllHeld k) sorted → All (IsAllHeld k) old
as_listed k old sorted same all = All-permutation (IsAllHeld k) sorted old (IsPermutation-sym old sorted same) all

-- ---- slices one after another

-- one slice more that stands between the offsets
pub with_next : (k : Kept) (from end end' : ℕ) (xs : List SourceSlice) (i : ℕ) (d : SourceSlice) → i < length xs → end ≤ end' → All (IsHeldOrIn k from end) (take i xs)
    → from ≤ (get_or xs i d).offset → min ((get_or xs i d).offset + (get_or xs i d).size) k.size ≤ end' → All (IsHeldOrIn k from end') (take (i + 1) xs)
with_next k from end end' xs i d lt longer all begins ends = All-more (IsHeldOrIn k from end') xs i d lt (in_longer k from end end' (take i xs) longer all) (inr (begins, ends))

-- a slice from which on others are read, where all before it is held
pub with_first : (k n : Kept) (from end end' : ℕ) (xs : List SourceSlice) (i : ℕ) (d : SourceSlice) → i < length xs → n.size ≡ k.size → ((at : ℕ) → IsHeldAt k at → IsHeldAt n at) → AreHeld n from end
    → All (IsHeldOrIn k from end) (take i xs) → min ((get_or xs i d).offset + (get_or xs i d).size) n.size ≤ end' → All (IsHeldOrIn n (get_or xs i d).offset end') (take (i + 1) xs)
with_first k n from end end' xs i d lt size grows more all ends =
    All-more (IsHeldOrIn n (get_or xs i d).offset end') xs i d lt (held_or_in n (get_or xs i d).offset end' (take i xs) (all_held k n from end (take i xs) size grows more all)) (inr (omega arith, ends))

-- slices in the order of their offsets begin behind an earlier one
pub rises_from : (xs : List SourceSlice) (i j : ℕ) (d e : SourceSlice) → IsNonDecreasingBy (λ s. s.offset) xs → i + 1 ≤ j → j < length xs → (get_or xs i e).offset ≤ (get_or xs j d).offset
rises_from xs i j d e rises le lt =
    let same : get_or xs i e ≡ get_or xs i d = get_or_default xs i e d (omega (arith, le, lt)) in
    rw same (rises i j d (omega (arith, le)) lt)

pub all_taken : (P : SourceSlice → Type 0) (n : ℕ) (xs ys : List SourceSlice) → length xs ≤ n → xs ≡ ys → All P (take n xs) → All P ys
all_taken P n xs ys le same all = rw (← same) (rw (take_all n xs le) at all)
