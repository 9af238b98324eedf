-- Runs that can be held, and what is held with them.
use Rattle.std.proofs.Common.{◌≡◌, ℕ, ◌+◌, ◌-◌, ◌<◌, ◌≤◌, ⊎_elim, List, length, get_or, ◌∙◌, arith}
use Rattle.std.specs.List.{AllPairs, Any, insert}
use Rattle.std.proofs.lemmas.List.Edits.{get_or-insert_above, get_or-insert_at, get_or-insert_below, length-insert}
use Rattle.std.proofs.lemmas.Bool.{cases_lt}
use Rattle.std.proofs.lemmas.Grind.{common_steps}
use Rattle.pdb_file.specs.declared.run.Run.{Run}
use Rattle.pdb_file.specs.HeldBytes.{Kept, AreHeld, end_of, HasByte, IsBefore, IsFree, IsHeldAt, IsKept, IsWith}
use Rattle.pdb_file.proofs.Files.{before_last, behind_next}

-- a run of the list has a byte that is held
held_in : (k : Kept) (i at : ℕ) (d : Run) → i < length k.runs → HasByte at (get_or k.runs i d) → IsHeldAt k at
held_in k i at d lt h = (i, get_or k.runs i d, lt, grind (arith, common_steps), h)

-- no byte is held past the end of the file
pub past_end : (k : Kept) (at : ℕ) → IsKept k → k.size ≤ at → IsHeldAt k at → ⊥
past_end k at kept le held =
    let ends = kept.fits held.0 held.1 held.2 in
    let same = rw held.3 at ends in
    omega (arith, le, same, held.4.1)

-- what reaches into the next run can't be held
pub reaches_next : (k : Kept) (i : ℕ) (d r : Run) → IsKept k → i < length k.runs → r.at < (get_or k.runs i d).at → (IsBefore r (get_or k.runs i d) → ⊥) → IsFree k r → ⊥
reaches_next k i d r kept lt begins reaches free =
    let next = get_or k.runs i d in
    let filled : 0 < length next.bytes.now = kept.filled i d lt in
    ⊎_elim
    (λ less. free.apart next.at (omega (arith, begins), less) (held_in k i next.at d lt (omega arith, omega (arith, filled))))
    (λ more. reaches more)
    (cases_lt next.at (end_of r))

-- nor what the last run reaches into
pub reached_by_last : (k : Kept) (i : ℕ) (d r : Run) → IsKept k → i < length k.runs → (get_or k.runs i d).at ≤ r.at → (IsBefore (get_or k.runs i d) r → ⊥) → IsFree k r → ⊥
reached_by_last k i d r kept lt begins reached free =
    let last = get_or k.runs i d in
    ⊎_elim
    (λ less. free.apart r.at (omega arith, omega (arith, free.filled)) (held_in k i r.at d lt (begins, less)))
    (λ more. reached more)
    (cases_lt r.at (end_of last))

behind : (xs : List Run) (i j : ℕ) (d r : Run) → i ≤ j → j < length xs → AllPairs IsBefore xs → IsBefore r (get_or xs i d) → IsBefore r (get_or xs j d)
behind xs i j d r le lt order start =
    let same : i + (j - i) ≡ j = omega (arith, le) in
    rw same at (behind_next xs i (j - i) d r (omega (arith, le, lt)) order start)

-- what stands between two neighbours can
pub free_between : (k : Kept) (i : ℕ) (r : Run) → IsKept k → 0 < length r.bytes.now → end_of r ≤ k.size → i ≤ length k.runs
    → ((d : Run) → 0 < i → i ≤ length k.runs → IsBefore (get_or k.runs (i - 1) d) r) → ((d : Run) → i < length k.runs → IsBefore r (get_or k.runs i d))
    → IsFree k r
free_between k i r kept filled inside le last next = record {
  filled = filled;
  inside = inside;
  apart = λ at has held. ⊎_elim
      (λ less. let b = rw held.3 at (before_last k.runs i held.0 held.1 r less le kept.order (last held.1 (omega (arith, less)) le)) in absurd (omega (arith, b, has.0, held.4.1)))
      (λ more. let b = behind k.runs i held.0 held.1 r more held.2 kept.order (next held.1 (omega (arith, more, held.2))) in let c = rw held.3 at b in absurd (omega (arith, c, has.1, held.4.0)))
      (cases_lt held.0 i);
}

-- so each byte of it is held
pub found_held : (k : Kept) (at n m from : ℕ) → Any (λ r. (r.at ≤ at) × (at + n ≡ end_of r)) k.runs → from ≡ at → m ≤ n → AreHeld k from (from + m)
found_held k at n m from found e le = λ place low high. (found.0, found.1, found.2, found.3, (omega (arith, found.4.0, low, e), omega (arith, found.4.1, high, le, e)))

-- what is held, and then more
pub held_more : (k : Kept) (from n m : ℕ) → AreHeld k from (from + n) → AreHeld k (from + n) (from + n + m) → AreHeld k from (from + (n + m))
held_more k from n m front more = λ at low high. ⊎_elim
    (λ less. front at low less)
    (λ behind. more at behind (omega (arith, high)))
    (cases_lt at (from + n))

pub held_join : (k : Kept) (from at end : ℕ) → AreHeld k from at → AreHeld k at end → AreHeld k from end
held_join k from at end front more = λ place low high. ⊎_elim
    (λ less. front place low less)
    (λ behind. more place behind high)
    (cases_lt place at)

-- ---- with one run more

any_insert : (P : Run → Type 0) (xs : List Run) (i : ℕ) (r : Run) → i ≤ length xs → Any P xs → Any P (insert xs i r)
any_insert P xs i r le h = ⊎_elim
    (λ less. (h.0, h.1, omega (arith, h.2, length-insert xs i r), get_or-insert_below xs i r h.1 h.0 less le ∙ h.3, h.4))
    (λ more. (h.0 + 1, h.1, omega (arith, h.2, length-insert xs i r), get_or-insert_above xs i r h.1 h.0 more le ∙ h.3, h.4))
    (cases_lt h.0 i)

pub with_more : (k n : Kept) (r : Run) → IsWith k r n → (at : ℕ) → IsHeldAt k at → IsHeldAt n at
with_more k n r w at h = rw w.2 (any_insert (HasByte at) k.runs w.0 r w.1 h)

pub with_all : (k n : Kept) (r : Run) → IsWith k r n → (at : ℕ) → HasByte at r → IsHeldAt n at
with_all k n r w at h = rw w.2 (w.0, r, omega (arith, w.1, length-insert k.runs w.0 r), get_or-insert_at k.runs w.0 r r w.1, h)

-- what is held up to a run, and the run
pub held_then : (k n : Kept) (r : Run) (from at end : ℕ) → IsWith k r n → AreHeld k from at → r.at ≡ at → end_of r ≡ end → AreHeld n from end
held_then k n r from at end w front begins ends = λ place low high. ⊎_elim
    (λ less. with_more k n r w place (front place low less))
    (λ behind. with_all k n r w place (omega (arith, behind, begins), omega (arith, high, ends)))
    (cases_lt place at)
