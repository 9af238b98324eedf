-- The turns of a loop over a list whose pieces one reading tells, over the bytes that it began with.
use Rattle.std.proofs.Common.{◌≡◌, ℕ, ◌<◌, ◌≤◌, List, [], ◌∷◌, length, Option, Some, None, Ok, Err, Result, refl, ap, subst, ◌∙◌, arith}
use Rattle.pdb_base.specs.declared.error.Error.{Error}
use Rattle.pdb_base.specs.Cursor.{Cursor, Reads}
use Rattle.pdb_base.specs.Left.{Left, Follows}
use Rattle.pdb_base.specs.Reading.{read_row}
use Rattle.pdb_base.specs.Tiling.{listing}
use Rattle.pdb_base.proofs.Readings.{ReadsInside, read_item, read_fault, read_end, read_moves}

module _ {X A : Type 0} (at : List ℕ → ℕ → Result A Error) (width : ℕ → A → ℕ) (within : ReadsInside at width) (shown : X → A) where
  abbrev pub list_from : List ℕ → ℕ → Left A
  list_from b p = listing (read_row at width) b p

  module _ (b : List ℕ) (old new : Cursor) (same : old.bytes ≡ b) where
    abbrev pub ReadsAt : Result X Error → Type 0
    ReadsAt r = Reads shown old new r (at old.bytes old.place) (width old.place)

    -- what was read is the first of those left
    pub turn_follows : (x : X) → ReadsAt (Ok x) → Follows (list_from b old.place) (shown x ∷ []) (list_from b new.place)
    turn_follows x reads =
        subst (λ (c : List ℕ). Follows (list_from c old.place) (shown x ∷ []) (list_from c new.place)) same
        (subst (λ (c : List ℕ). Follows (list_from old.bytes old.place) (shown x ∷ []) (list_from c new.place)) reads.1
        (read_item at width within shown (list_from old.bytes old.place) old new refl x reads))

    -- the place moves on, inside the bytes
    pub turn_moves : (x : X) → ReadsAt (Ok x) → (old.place < new.place) × (new.place ≤ length b)
    turn_moves x reads =
        let m = read_moves at width within shown old new x reads in
        (m.0, omega (arith, m.1, ap length (reads.1 ∙ same)))

    abbrev pub EndsWith : Option Error → List ℕ → Type 0
    EndsWith f c = ((list_from c old.place).items ≡ []) × ((list_from c old.place).fault ≡ f)

    fault_here : (e : Error) → old.place < length old.bytes → ReadsAt (Err e) → EndsWith (Some e) old.bytes
    fault_here e h reads =
        let f = read_fault at width within shown (list_from old.bytes old.place) old new refl e new.bytes (length new.bytes) h reads refl (omega arith) in
        (f.0, f.1)

    -- a refusal is all that is left
    pub turn_fault : (e : Error) → old.place < length b → ReadsAt (Err e) → EndsWith (Some e) b
    turn_fault e h reads = subst (EndsWith (Some e)) same (fault_here e (omega (arith, h, ap length same)) reads)

    end_here : length old.bytes ≤ old.place → EndsWith None old.bytes
    end_here h =
        let f = read_end at width within shown (list_from old.bytes old.place) old old refl h in
        (f.0, f.1)

    -- nothing is left at the end
    pub turn_end : length b ≤ old.place → EndsWith None b
    turn_end h = subst (EndsWith None) same (end_here (omega (arith, h, ap length same)))
