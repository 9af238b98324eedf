-- In an index that is well made look-ups find what they ask for.
use Rattle.std.proofs.Common.{◌≡◌, inl, inr, ℕ, ◌+◌, ◌-◌, ◌<◌, ◌≤◌, Bool, true, false, cond, List, Option, Some, None, refl, sym, subst, arith}
use Rattle.std.specs.Prelude.{◌==◌, IfSome, IsSome, nat_lt}
use Rattle.std.specs.Option.{option_map}
use Rattle.std.proofs.lemmas.Bool.{le-ltb}
use Rattle.pdb_index.specs.declared.layout.Layout.{Layout}
use Rattle.pdb_index.specs.declared.runs.Run.{Run}
use Rattle.pdb_index.specs.declared.segments.Place.{Place}
use Rattle.pdb_index.specs.IndexLayout.{start_of, word_at}
use Rattle.pdb_index.specs.Searches.{Finds}
use Rattle.pdb_index.specs.SectionRuns.{IsRunAmong, IsRunAt, IsRunIn, run_of, section_row}
use Rattle.pdb_index.specs.Segments.{IsPlaceOf, place_by, place_in}
use Rattle.pdb_index.specs.WellMade.{first_run, IsRising, NamesWhatIsThere}
use Rattle.pdb_index.proofs.RisingNumbers.{last}

some_by : {A : Type 0} (z : Bool) (x y : A) → IsSome (cond z (Some x) (Some y))
some_by true x y = refl
some_by false x y = refl

module _ (b : List ℕ) (t : Layout) (rising : IsRising b t) (named : NamesWhatIsThere b t) where
  place_is : (k address : ℕ) → k < t.segments.rows → IsSome (place_in b t k address)
  unfolding place_in
  place_is k address lt =
      let small = named.sections k lt in
      let e : nat_lt 65535 (word_at b t.segments k 4) ≡ false = le-ltb 65535 (word_at b t.segments k 4) (omega (arith, small)) in
      rw e (some_by (word_at b t.segments k 4 == 0) _ _)

  place_found : (address : ℕ) (k : Option ℕ) → Finds (start_of b t.segments) 0 t.segments.rows address k → IsSome (place_by b t address k)
  place_found address None h =
      let from = rising.segments.from in
      let some = named.some.0 in
      let above = h (omega (arith, some)) in
      absurd (omega (arith, above, from))
  place_found address (Some k) has = place_is k address has.there

  pub places : (address : ℕ) (place : Option (Option Place)) → IsPlaceOf b t address place → IsSome place
  places address place h = subst IsSome (sym h.2) (place_found address h.0 h.1)

  first_below : (k : ℕ) → k + 1 < t.sections.rows → (first_run b t k < first_run b t (k + 1)) × (first_run b t (k + 1) ≤ t.starts.rows)
  first_below k lt =
      let to = rising.sections.to in
      let upto = last (first_run b t) t.sections.rows (k + 1) rising.sections.runs lt in
      (rising.sections.runs.each k (k + 1) (omega arith) (omega arith) lt, omega (arith, to, upto))

  run_among : (k offset : ℕ) (n : Option ℕ) → k + 1 < t.sections.rows → IsRunAmong b t (first_run b t k) (first_run b t (k + 1)) offset n → IsSome n
  run_among k offset (Some n) lt h = refl
  run_among k offset None lt (inl h) =
      let from = (rising.starts.each k lt).from in
      let above = h.2 h.0 in
      absurd (omega (arith, above, from))
  run_among k offset None lt (inr h) =
      let below = first_below k lt in
      let past = h.0 below.0 in
      absurd (omega (arith, past, below))

  run_in : (row : Option ℕ) (offset : ℕ) (run : Option (Option Run)) → IfSome row (λ k. k + 1 < t.sections.rows) → IsRunIn b t offset row run → IsSome run
  run_in None offset run there h = subst IsSome (sym h) refl
  run_in (Some k) offset run there h = by_number h.1.0 (run_among k offset h.1.0 there h.1.1) h.0 h.1.2 h.2
    where
      by_number : (n : Option ℕ) → IsSome n → (r : Option Run) → r ≡ option_map (run_of b t) n → run ≡ option_map Some r → IsSome run
      by_number None some r e d = absurd cc
      by_number (Some j) some None e d = absurd cc
      by_number (Some j) some (Some r) e d = subst IsSome (sym d) refl

  row_there : (section : ℕ) (k : Option ℕ) → Finds (start_of b t.sections) 0 (t.sections.rows - 1) section k → IfSome (section_row b t section k) (λ j. j + 1 < t.sections.rows)
  row_there section None h = tt
  row_there section (Some k) has = by_test (start_of b t.sections k == section)
    where
      by_test : (z : Bool) → IfSome (cond z (Some k) None) (λ j. j + 1 < t.sections.rows)
      by_test true = let there = has.there in omega (arith, there)
      by_test false = tt

  pub runs : (section offset : ℕ) (run : Option (Option Run)) → IsRunAt b t section offset run → IsSome run
  runs section offset run h =
      let found = h.1 in
      run_in h.0 offset run (subst (λ (row : Option ℕ). IfSome row (λ j. j + 1 < t.sections.rows)) (sym found.2) (row_there section found.0 found.1)) h.2
