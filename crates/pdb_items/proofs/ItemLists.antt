-- The records of a list, their indices, and the turns of the loops over them.
use Rattle.std.proofs.Common.{◌≡◌, ℕ, suc, ◌+◌, ◌-◌, ◌<◌, ◌≤◌, Bool, true, false, cond, List, [], ◌∷◌, length, Option, None, Result, Ok, Err, refl, ap, arith}
use Rattle.std.proofs.lemmas.Bool.{le-ltb, lt-ltb}
use Rattle.std.specs.Prelude.{nat_lt}
use Rattle.pdb_base.specs.declared.error.Error.{Error}
use Rattle.pdb_base.specs.Fields.{number_at, bytes_at}
use Rattle.pdb_base.specs.Left.{Left, Follows, Ends, ended}
use Rattle.pdb_base.specs.Tiling.{listing}
use Rattle.pdb_base.proofs.Numbers.{length_bytes}
use Rattle.pdb_base.proofs.Places.{bind_ok, slice_is}
use Rattle.pdb_base.proofs.Readings.{ReadsInside}
use Rattle.pdb_base.proofs.Tilings.{listing_end, few}
use Rattle.pdb_items.specs.Items.{ItemEntry, behind_length, record_at, record_length, records, numbered, numbered_left, fault_behind, items_from}

pub guard_ok : {A : Type 0} (t : Bool) (d : Error) (r : Result A Error) (y : A) → cond t (Err d) r ≡ Ok y → (t ≡ false) × (r ≡ Ok y)
guard_ok true d r y e = absurd cc
guard_ok false d r y e = (refl, e)

record_ends : (b : List ℕ) (p : ℕ) (s : List ℕ) → record_at b p ≡ Ok s → p + record_length p s ≤ length b
unfolding record_at
record_ends b p s e =
    let (n, e1, rest) = bind_ok (number_at b p 2) (λ n. behind_length n b p) s e in
    let bytes = (guard_ok (nat_lt n 2) _ (bytes_at b (p + 2) n) s rest).1 in
    let slice = slice_is b (p + 2) n s bytes in
    omega (arith, slice.there, length_bytes b (p + 2) n s bytes)

pub records_within : ReadsInside record_at record_length
records_within = record { inside = λ b p s e. let ends = record_ends b p s e in (omega arith, omega (arith, ends)) }

-- ---- indices

indexed : (i : ℕ) → i < 0x100000000 → nat_lt i 0x100000000 ≡ true
indexed i h = lt-ltb i 0x100000000 h

past : (i : ℕ) → 0x100000000 ≤ i → nat_lt i 0x100000000 ≡ false
past i h = le-ltb i 0x100000000 h

same_fault : (i n m : ℕ) (f g : Option Error) → i + n ≡ m → f ≡ g → cond (nat_lt (i + n) 0x100000000) f None ≡ cond (nat_lt m 0x100000000) g None
same_fault i n m f g e h = rw (e, h) refl

-- a record comes first, with the index
pub numbered_item : (i : ℕ) (old : Left (List ℕ)) (s : List ℕ) (new : Left (List ℕ)) → i < 0x100000000 → Follows old (s ∷ []) new → Follows (numbered_left i old) (record { index = i; bytes = s } ∷ []) (numbered_left (i + 1) new)
numbered_item i old s new lt f =
    let size : i + length old.items ≡ i + 1 + length new.items = rw f.0 (omega arith) in
    (rw (f.0, indexed i lt) refl, same_fault i (length old.items) _ old.fault new.fault size f.1)

nothing : (t : Bool) → ◌≡◌ {A = Left ItemEntry} (record { items = []; fault = cond t None None }) ended
nothing true = refl
nothing false = refl

-- nothing is left but the fault
pub numbered_end : (i j : ℕ) (old : Left (List ℕ)) (fault : Option Error) (new : Left (List ℕ)) → i < 0x100000000 → Ends old [] fault new → Ends (numbered_left i old) [] fault (numbered_left j new)
numbered_end i j old fault new lt e =
    let size : i + length old.items ≡ i = rw e.0 (omega arith) in
    (rw e.0 refl, rw (size, indexed i lt) e.1, ended_left j new e.2)
  where
    ended_left : (j : ℕ) (new : Left (List ℕ)) → new ≡ ended → numbered_left j new ≡ ended
    ended_left j new e = rw e (nothing (nat_lt (j + 0) 0x100000000))

-- no index is left
pub numbered_past : (i : ℕ) (left : Left (List ℕ)) → 0x100000000 ≤ i → numbered_left i left ≡ ended
numbered_past i left h = no_items left.items
  where
    no_fault : nat_lt (i + length left.items) 0x100000000 ≡ false
    no_fault = past (i + length left.items) (omega arith)

    no_items : (ss : List (List ℕ)) → ◌≡◌ {A = Left ItemEntry} (record { items = numbered i ss; fault = fault_behind i left }) ended
    no_items [] = rw no_fault refl
    no_items (s ∷ ss) = rw (no_fault, past i h) refl

few_numbered : (i : ℕ) (ss : List (List ℕ)) → length (numbered i ss) ≤ length ss
few_numbered i [] = omega arith
few_numbered i (s ∷ ss) = by_test (nat_lt i 0x100000000) (few_numbered (i + 1) ss)
  where
    by_test : (t : Bool) → length (numbered (i + 1) ss) ≤ length ss → length (cond t (record { index = i; bytes = s } ∷ numbered (i + 1) ss) []) ≤ suc (length ss)
    by_test true h = omega arith
    by_test false h = omega arith

pub few_items : (i : ℕ) (b : List ℕ) (p : ℕ) → length (items_from i b p).items ≤ length b - p
few_items i b p = omega (arith, few_numbered i (listing records b p).items, few records b p)

pub numbered_nothing : (i : ℕ) (left : Left (List ℕ)) → left ≡ ended → numbered_left i left ≡ ended
numbered_nothing i left e = rw e (nothing (nat_lt (i + 0) 0x100000000))

pub nothing_left : (i : ℕ) → items_from i [] 0 ≡ ended
nothing_left i = numbered_nothing i (listing records [] 0) (listing_end records [] 0 (omega arith))

pub no_items_left : (i : ℕ) → (items_from i [] 0).items ≡ []
no_items_left i = ap (λ (left : Left ItemEntry). left.items) (nothing_left i)

-- what has ended stays so
pub ends_empty : (old : Left ItemEntry) → old ≡ ended → Ends old [] None old
ends_empty old e = (ap (λ (l : Left ItemEntry). l.items) e, ap (λ (l : Left ItemEntry). l.fault) e, e)
