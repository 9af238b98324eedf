-- The turns of a loop over a list whose pieces one reading tells.
use Rattle.std.proofs.Common.{◌≡◌, ℕ, ◌+◌, ◌-◌, ◌<◌, ◌≤◌, List, [], ◌∷◌, length, Some, None, Result, Ok, Err, option_map, refl, ◌∙◌, arith}
use Rattle.pdb_base.specs.declared.error.Error.{Error}
use Rattle.pdb_base.specs.Cursor.{Cursor, Reads}
use Rattle.pdb_base.specs.Left.{Left, Follows, Ends}
use Rattle.pdb_base.specs.Tiling.{IsInside, listing}
use Rattle.pdb_base.specs.Reading.{given, read_row}
use Rattle.pdb_base.proofs.Tilings.{then_item, then_fault, then_end}

-- what is read lies inside the bytes, and takes some of them
pub record ReadsInside {A : Type 0} (at : List ℕ → ℕ → Result A Error) (width : ℕ → A → ℕ) : Type 0 where
  pub inside : (b : List ℕ) (p : ℕ) (x : A) → at b p ≡ Ok x → (0 < width p x) × (p + width p x ≤ length b)

module _ {A : Type 0} (at : List ℕ → ℕ → Result A Error) (width : ℕ → A → ℕ) (within : ReadsInside at width) where
  piece_inside : (b : List ℕ) (p k : ℕ) (r : Result A Error) → at b p ≡ r → option_map (width p) (given r) ≡ Some k → (0 < k) × (p + k ≤ length b)
  piece_inside b p k (Ok x) e q = let i = within.inside b p x e in let same : width p x ≡ k = cc in rw (← same) i
  piece_inside b p k (Err d) e q = absurd cc

  pub row_inside : IsInside (read_row at width)
  row_inside = record { inside = λ b p k e. piece_inside b p k (at b p) refl e }

  -- the place moves on, inside the bytes
  pub read_moves : {X : Type 0} (shown : X → A) (old new : Cursor) (x : X) → Reads shown old new (Ok x) (at old.bytes old.place) (width old.place) → (old.place < new.place) × (new.place ≤ length new.bytes)
  read_moves shown old new x reads =
      let i = within.inside old.bytes old.place (shown x) reads.0 in
      rw reads.1 (omega (arith, i, reads.2), omega (arith, i, reads.2))

  module _ {X : Type 0} (shown : X → A) (start : Left A) (old new : Cursor) (here : start ≡ listing (read_row at width) old.bytes old.place) where
    -- what was read is the first of the items that are left
    pub read_item : (x : X) → Reads shown old new (Ok x) (at old.bytes old.place) (width old.place) → Follows start (shown x ∷ []) (listing (read_row at width) new.bytes new.place)
    read_item x reads =
        let i = within.inside old.bytes old.place (shown x) reads.0 in
        let step : new.place - old.place ≡ width old.place (shown x) = omega (arith, i, reads.2) in
        let piece : (read_row at width).piece old.bytes old.place ≡ Some (new.place - old.place) = rw (step, reads.0) refl in
        let makes : (read_row at width).item old.bytes old.place (new.place - old.place) ≡ Some (shown x) = rw reads.0 refl in
        then_item (read_row at width) row_inside shown start old.bytes new.bytes old.place here x new.place reads.1 (omega (arith, i, reads.2), omega (arith, i, reads.2), piece, makes)

    -- a refusal is the fault, behind which nothing is left
    pub read_fault : (e : Error) (b : List ℕ) (q : ℕ) → old.place < length old.bytes → Reads shown old new (Err e) (at old.bytes old.place) (width old.place) → b ≡ new.bytes → length b ≤ q → Ends start [] (Some e) (listing (read_row at width) b q)
    read_fault e b q before reads same past =
        let piece : (read_row at width).piece old.bytes old.place ≡ None = rw reads.0 refl in
        let fault : (read_row at width).fault old.bytes old.place ≡ Some e = rw reads.0 refl in
        then_fault (read_row at width) row_inside shown start old.bytes b old.place here e 0 q (same ∙ reads.1) before (piece, fault) past

    -- nothing is left at the end
    pub read_end : length old.bytes ≤ old.place → Ends start [] None (listing (read_row at width) old.bytes old.place)
    read_end past = then_end (read_row at width) row_inside shown start old.bytes old.bytes old.place here past
