-- The first zero byte of a list.
use Rattle.std.proofs.Common.{◌≡◌, ℕ, ◌+◌, ◌%◌, ◌^◌, ◌<◌, ◌≤◌, true, cond, eqb, List, length, get_or, replicate, map, Some, None, position, ap, arith, ◌∙◌, w8, inl, inr}
use Rattle.std.specs.Prelude.{◌==◌}
use Rattle.std.specs.Int.{w64, trailing_zeros}
use Rattle.std.proofs.lemmas.Bool.Decides.{nat_tests}
use Rattle.std.proofs.lemmas.Bool.{cases_lt}
use Rattle.std.proofs.lemmas.List.Sums.{position_or_len_is}
use Rattle.std.proofs.lemmas.Simd.{bitmask_splat, first_set_mask_l, length-chunk, run_in_chunk_le, run_in_chunk_fails, run_in_chunk_stops}
use lib.Lanes.{chunk, mask_l, top, zip2}
use Rattle.pdb_base.specs.Runs.{NoZeros, IsRun}

-- the bits of the lanes of a load that are zeros
abbrev pub zero_lanes : List ℕ → ℕ → ℕ → ℕ
zero_lanes b p n = mask_l (map (top 7) (zip2 (λ x y. cond (eqb x y) 255 0) (chunk p n b) (replicate n 0))) % 2 ^ 64

pub run_of : (b : List ℕ) (p n r : ℕ) → p + n ≤ length b → n ≤ 64 → r ≡ cond (eqb (zero_lanes b p n) 0) n (trailing_zeros w64 (zero_lanes b p n)) → IsRun b p n r
run_of b p n r room small e =
    let v = chunk p n b in
    let long = length-chunk p n b room in
    let mask = bitmask_splat w8 eqb v n 0 long small in
    let counted = e ∙ ap (λ m. cond (eqb m 0) n (trailing_zeros w64 m)) mask ∙ first_set_mask_l (λ x. eqb x 0) v n long small in
    record {
      most = run_in_chunk_le (λ x. eqb x 0) b p n r 0 room counted;
      before = λ k low high. run_in_chunk_fails (λ x. eqb x 0) b p n r 0 room counted k low high;
      stops = λ lt. run_in_chunk_stops (λ x. eqb x 0) b p n r 0 room counted lt;
    }

pub zero_found : (b : List ℕ) (k : ℕ) → k < length b → NoZeros b 0 k → (get_or b k 0 == 0) ≡ true → Some k ≡ position (λ x. x == 0) b
zero_found b k h before at =
    let e = position_or_len_is (λ x. x == 0) b k 0 (omega arith) (λ j l. before j (omega arith) l) (λ _. at) in
    grind (arith, nat_tests)

pub zero_absent : (b : List ℕ) → NoZeros b 0 (length b) → None ≡ position (λ x. x == 0) b
zero_absent b before =
    let e = position_or_len_is (λ x. x == 0) b (length b) 0 (omega arith) (λ j l. before j (omega arith) l) (λ l. absurd (omega (arith, l))) in
    grind (arith, nat_tests)

-- up to the end of a run that begins where no zero was met so far, there is none
behind_none : (b : List ℕ) (m p r : ℕ) → NoZeros b 0 m → p ≤ m → NoZeros b p (p + r) → NoZeros b 0 (p + r)
behind_none b m p r none le run k low high = elim (cases_lt k p) [
  | inl h ↦ none k low (omega arith)
  | inr h ↦ run k (omega arith) high
]

pub found_in : (b : List ℕ) (m p n r q : ℕ) → NoZeros b 0 m → p ≤ m → p + n ≤ length b → IsRun b p n r → r < n → q ≡ p + r → Some q ≡ position (λ x. x == 0) b
found_in b m p n r q none le room run lt e = rw e (zero_found b (p + r) (omega arith) (behind_none b m p r none le run.before) (run.stops lt))

pub absent_from : (b : List ℕ) (m p n r : ℕ) → NoZeros b 0 m → p ≤ m → p + n ≡ length b → IsRun b p n r → n ≤ r → None ≡ position (λ x. x == 0) b
absent_from b m p n r none le whole run ge =
    zero_absent b (λ k low high. behind_none b m p r none le run.before k low (omega arith))

pub passed : (b : List ℕ) (p n r : ℕ) → NoZeros b 0 p → IsRun b p n r → n ≤ r → NoZeros b 0 (p + n)
passed b p n r none run ge k low high = behind_none b p p r none (omega arith) run.before k low (omega arith)
