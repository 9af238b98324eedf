-- The meaning of an iterator that may be refused: the items that are left, and perhaps a fault after them.
use Rattle.std.specs.Prelude.{◌≡◌, ℕ, Bool, true, false, ◌⊎◌, List, [], ◌∷◌, ◌++◌, map, length, Option, Some, None, Result, Ok, Err}
use Rattle.std.specs.Fn.{Mut, CalledAt}
use Rattle.std.specs.Borrow.{Bor}
use Rattle.std.specs.List.{FoldsTo, find}
use Rattle.pdb_base.specs.declared.error.Error.{Error}
use Rattle.pdb_base.specs.declared.error.Error.TheVariants.{OutOfMemory}

-- what is left
pub record Left (A : Type 0) : Type 0 where
  pub items : List A
  pub fault : Option Error

-- nothing is left
abbrev pub ended : {A : Type 0} → Left A
ended = record { items = []; fault = None }

-- all items, or the fault alone
abbrev pub all_or : {A : Type 0} → List A → Option Error → Result (List A) Error
all_or items None = Ok items
all_or items (Some e) = Err e

-- a list that is taken whole: all its items, or its fault alone
abbrev pub whole : {A : Type 0} → Left A → Result (List A) Error
whole left = all_or left.items left.fault

-- the items xs come, and then what `new` has
abbrev pub Follows : {A : Type 0} → Left A → List A → Left A → Type 0
Follows old xs new = (old.items ≡ xs ++ new.items) × (old.fault ≡ new.fault)

-- the items xs come, and then the fault f or the end, which leaves nothing
abbrev pub Ends : {A : Type 0} → Left A → List A → Option Error → Left A → Type 0
Ends old xs f new = (old.items ≡ xs) × (old.fault ≡ f) × (new ≡ ended)

-- a call of `next` gave the first item, or the fault after the last one, or nothing
abbrev pub Yields : {X A : Type 0} → (X → A) → Left A → Result (Option X) Error → Left A → Type 0
Yields shown old (Ok (Some x)) new = Follows old (shown x ∷ []) new
Yields shown old (Ok None) new = Ends old [] None new
Yields shown old (Err e) new = Ends old [] (Some e) new

-- `count` gave the number of the items, or the fault after them
abbrev pub Counts : {A : Type 0} → Left A → Result ℕ Error → Type 0
Counts old (Ok n) = (n ≡ length old.items) × (old.fault ≡ None)
Counts old (Err e) = old.fault ≡ Some e

-- `collect` gave the items, or the fault after them, or a growth was refused
abbrev pub Collects : {X A : Type 0} → (X → A) → Left A → Result (List X) Error → Type 0
Collects shown old (Ok xs) = (map shown xs ≡ old.items) × (old.fault ≡ None)
Collects shown old (Err e) = (old.fault ≡ Some e) ⊎ (e ≡ OutOfMemory)

-- the item that was found, or else the fault, or nothing
abbrev pub found_or : {A : Type 0} → Option A → Option Error → Result (Option A) Error
found_or (Some x) fault = Ok (Some x)
found_or None (Some e) = Err e
found_or None None = Ok None

-- the first item that passes a test; where none does the fault, or nothing
abbrev pub found_in : {A : Type 0} → (A → Bool) → Left A → Result (Option A) Error
found_in test left = found_or (find test left.items) left.fault

module _ {F X A : Type 0} (shown : X → A) (g : Mut F (Bor X × Unit {0}) (Result Bool Error)) where
  -- calls of p at the items xs, in order, answered `Ok(false)` and left q
  abbrev pub RejectsAll : F → List X → F → Type 0
  RejectsAll p xs q = FoldsTo (λ p x q. CalledAt g p x (Ok false) q) p xs q

  -- what ended the search after the items xs, with the closure at q
  abbrev pub StopsAt : Left A → List X → F → Result (Option X) Error → Left A → Type 0
  StopsAt old xs q (Ok (Some x)) new = Follows old (map shown xs ++ shown x ∷ []) new × (h : F) × CalledAt g q x (Ok true) h
  StopsAt old xs q (Ok None) new = Ends old (map shown xs) None new
  StopsAt old xs q (Err e) new =
      (Ends old (map shown xs) (Some e) new)
      ⊎ ((x : X) × Follows old (map shown xs ++ shown x ∷ []) new × (h : F) × CalledAt g q x (Err e) h)

  -- `find` rejected the items xs, and then gave the item that p wanted, or the iterator's fault, or p's error at the item behind which it stands
  abbrev pub Finds : Left A → F → Result (Option X) Error → Left A → Type 0
  Finds old p result new = (xs : List X) × (q : F) × RejectsAll p xs q × StopsAt old xs q result new

  -- each call of p answers whether what the item shows passes a test
  abbrev pub Tests : (A → Bool) → Type 0
  Tests test = (p : F) (x : X) (r : Result Bool Error) (q : F) → CalledAt g p x r q → r ≡ Ok (test (shown x))
