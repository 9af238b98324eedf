-- Where rows rise, a search finds the last.
use Rattle.std.proofs.Common.{◌≡◌, ◌⊎◌, inl, inr, ℕ, ◌+◌, ◌<◌, ◌≤◌, Option, Some, None, subst, arith}
use Rattle.std.proofs.lemmas.Bool.{cases_lt}
use Rattle.pdb_index.specs.Searches.{Finds, FindsLast, Has, Rises}

module _ (key : ℕ → ℕ) (first behind at : ℕ) (rise : Rises key first behind) where
  behind_next : (k : ℕ) → Has key first behind at k → (j : ℕ) → k < j → j < behind → (k + 1 < j) ⊎ (j ≤ k + 1) → at < key j
  behind_next k has j lt there (inl more) =
      let next = has.next (omega (arith, more, there)) in
      let above = rise.each (k + 1) j (omega (arith, has.from)) more there in
      omega (arith, next, above)
  behind_next k has j lt there (inr same) =
      let e : k + 1 ≡ j = omega (arith, lt, same) in
      subst (λ (x : ℕ). at < key x) e (has.next (omega (arith, e, there)))

  behind_first : (first < behind → at < key first) → (j : ℕ) → first ≤ j → j < behind → (first < j) ⊎ (j ≤ first) → at < key j
  behind_first h j from there (inl more) =
      let next = h (omega (arith, from, there)) in
      let above = rise.each first j (omega arith) more there in
      omega (arith, next, above)
  behind_first h j from there (inr same) =
      let e : first ≡ j = omega (arith, from, same) in
      subst (λ (x : ℕ). at < key x) e (h (omega (arith, from, there)))

  pub finds_last : (row : Option ℕ) → Finds key first behind at row → FindsLast key first behind at row
  finds_last None h = λ j from there. behind_first h j from there (cases_lt first j)
  finds_last (Some k) has = record {
    from = has.from;
    there = has.there;
    begins = has.begins;
    after = λ j lt there. behind_next k has j lt there (cases_lt (k + 1) j);
  }
