-- A line program grows by a subsection.
use Rattle.std.proofs.Common.{◌≡◌, ℕ, ◌+◌, ◌-◌, ◌<◌, ◌≤◌, true, false, List, [], ◌∷◌, ◌++◌, map, length, get_or, take, Option, Some, None, refl, sym, ap, subst, ◌∙◌, arith, length-append}
use Rattle.std.proofs.lemmas.List.{length-map, map_push, map_more, flat_map_more}
use Rattle.pdb_modules.specs.declared.line_subsection.LineSubsection.{LineSubsection}
use Rattle.std.specs.List.{sum_by}
use Rattle.std.proofs.lemmas.List.Sums.{sum_by_more}
use Rattle.std.specs.Option.{is_some}
use Rattle.pdb_base.specs.declared.error.Error.{Error}
use Rattle.pdb_modules.specs.declared.line_info.LineInfo.{LineInfo}
use Rattle.pdb_modules.specs.declared.rows.Row.{Row}
use Rattle.pdb_modules.specs.declared.line_program.Listed.{Listed}
use Rattle.pdb_modules.specs.Lines.{Mark, records, Subsection, marks, program_marks, program_fault, first_of, lines_of}
use Rattle.pdb_modules.specs.KeptRows.{whole, own, after, subsection_of, all_marks, own_records, all_own, given_count}
use Rattle.pdb_modules.specs.LineProgram.{part_bytes, listed_subsections, AreRanges, IsResolved}
use Rattle.pdb_modules.specs.LineOrder.{InOrder}
use Rattle.pdb_modules.proofs.Reaching.{after_records}
use Rattle.pdb_modules.proofs.Faults.{fault_more, open_marks_more, closed_marks_more, given_items, fault_of_lines, count_below, count_inside}
use Rattle.pdb_modules.proofs.RowRanges.{ranges_more}

-- the subsections ss are resolved
pub record IsPartly (rows : List Row) (ls : List Listed) (count : ℕ) (stop : Option Error) (ss : List Subsection) : Type 0 where
  pub listed : listed_subsections ls ≡ ss
  pub shown : map whole rows ≡ records (all_marks ss)
  pub alone : map own rows ≡ all_own ss
  pub ranges : AreRanges 0 ls
  pub told : stop ≡ program_fault ss
  pub counted : count ≡ given_count (length (records (program_marks ss))) (program_fault ss)

module _ (rows : List Row) (ls : List Listed) (count : ℕ) (stop : Option Error) (ss : List Subsection) (partly : IsPartly rows ls count stop ss) where
  rows_counted : length rows ≡ length (all_own ss)
  rows_counted = omega (arith, length-map rows own, ap length partly.alone)

  module _ (rows' : List Row) (l : Listed) (shown : map whole rows' ≡ after (map whole rows) (marks (subsection_of l.part))) (alone : map own rows' ≡ map own rows ++ own_records (subsection_of l.part)) (from : l.from ≡ length rows) (to : l.to ≡ l.from + given_count (length rows' - length rows) (subsection_of l.part).fault) (stopped : l.fault ≡ (subsection_of l.part).fault) (small : l.to ≤ l.from + part_bytes l.part) where
    abbrev s : Subsection
    s = subsection_of l.part

    more_shown : map whole rows' ≡ records (all_marks (ss ++ s ∷ []))
    more_shown = shown ∙ (ap (λ (rs : List LineInfo). after rs (marks s)) partly.shown ∙ (after_records (all_marks ss) (marks s) ∙ ap records (flat_map_more marks [] ss s)))

    more_alone : map own rows' ≡ all_own (ss ++ s ∷ [])
    more_alone = alone ∙ (ap (λ (rs : List LineInfo). rs ++ own_records s) partly.alone ∙ flat_map_more own_records [] ss s)

    more_counted : length rows' ≡ length (records (all_marks (ss ++ s ∷ [])))
    more_counted = omega (arith, length-map rows' whole, ap length more_shown)

    mine_counted : length rows' - length rows ≡ length (own_records s)
    mine_counted = omega (arith, length-map rows' own, ap length alone, length-append (map own rows) (own_records s), length-map rows own)

    more_listed : listed_subsections (ls ++ l ∷ []) ≡ ss ++ s ∷ []
    more_listed = map_push (λ (l : Listed). subsection_of l.part) ls l ∙ ap (λ (ss : List Subsection). ss ++ s ∷ []) partly.listed

    more_ranges : AreRanges 0 (ls ++ l ∷ [])
    more_ranges =
        ranges_more 0 ls l partly.ranges
        (omega (arith, rows_counted, ap (λ (ss : List Subsection). length (all_own ss)) partly.listed))
        (to ∙ ap (λ (n : ℕ). l.from + given_count n (subsection_of l.part).fault) mine_counted) stopped small

    -- no fault so far
    pub goes_on : (count' : ℕ) (stop' : Option Error) → stop ≡ None → stop' ≡ (subsection_of l.part).fault → count' ≡ given_count (length rows') stop' → IsPartly rows' (ls ++ l ∷ []) count' stop' (ss ++ s ∷ [])
    goes_on count' stop' none is counts =
        let unstopped : program_fault ss ≡ None = sym partly.told ∙ none in
        let fault : stop' ≡ program_fault (ss ++ s ∷ []) = is ∙ (sym (ap (λ (f : Option Error). first_of f s.fault) unstopped) ∙ sym (fault_more ss s)) in
        let marks_are : length rows' ≡ length (records (program_marks (ss ++ s ∷ []))) = more_counted ∙ ap (λ (ms : List Mark). length (records ms)) (sym (open_marks_more ss s unstopped)) in
        record {
          listed = more_listed;
          shown = more_shown;
          alone = more_alone;
          ranges = more_ranges;
          told = fault;
          counted = counts ∙ (ap (λ (n : ℕ). given_count n stop') marks_are ∙ ap (given_count (length (records (program_marks (ss ++ s ∷ []))))) fault);
        }

    -- behind a fault
    pub stays : (e : Error) → stop ≡ Some e → IsPartly rows' (ls ++ l ∷ []) count stop (ss ++ s ∷ [])
    stays e is =
        let closed : program_fault ss ≡ Some e = sym partly.told ∙ is in
        let first : first_of (program_fault ss) s.fault ≡ program_fault ss = ap (λ (f : Option Error). first_of f s.fault) closed ∙ sym closed in
        let fault : program_fault (ss ++ s ∷ []) ≡ program_fault ss = fault_more ss s ∙ first in
        record {
          listed = more_listed;
          shown = more_shown;
          alone = more_alone;
          ranges = more_ranges;
          told = partly.told ∙ sym fault;
          counted = partly.counted ∙ (ap (λ (f : Option Error). given_count (length (records (program_marks ss))) f) (sym fault) ∙ ap (λ (ms : List Mark). given_count (length (records ms)) (program_fault (ss ++ s ∷ []))) (sym (closed_marks_more ss s e closed)));
        }

  -- all of them
  pub resolved : (b : List ℕ) → length rows ≤ length b → InOrder ss → IsResolved rows ls count stop b
  resolved b room order = record {
    room = room;
    shown = ap (take count) partly.shown ∙ (ap (λ (n : ℕ). take n (records (all_marks ss))) partly.counted ∙ (given_items ss ∙ ap (λ (ss : List Subsection). (lines_of ss).items) (sym partly.listed)));
    told = partly.told ∙ (fault_of_lines ss ∙ ap (λ (ss : List Subsection). (lines_of ss).fault) (sym partly.listed));
    alone = partly.alone ∙ ap all_own (sym partly.listed);
    ranges = partly.ranges;
    inside = omega (arith, partly.counted, count_inside ss, length-map rows whole, ap length partly.shown);
    order = subst InOrder (sym partly.listed) order;
  }

-- ---- the loop's step, over its plain values

module _ (rows rows' : List Row) (ls ls' : List Listed) (count count' from to size : ℕ) (stop stop' fault : Option Error) (parts : List LineSubsection) (i : ℕ) (part : LineSubsection) (part_is : part ≡ get_or parts i part) where
  abbrev done : List Subsection
  done = map subsection_of (take i parts)

  module _
      (partly : IsPartly rows ls count stop done)
      (l : i < length parts)
      (shown : map whole rows' ≡ after (map whole rows) (marks (subsection_of part)))
      (alone : map own rows' ≡ map own rows ++ own_records (subsection_of part))
      (listed : ls' ≡ ls ++ record { part = part; from = from; to = to; fault = fault } ∷ [])
      (fault_is : fault ≡ (subsection_of part).fault)
      (from_is : from ≡ length rows)
      (to_is : to ≡ from + given_count (size - from) fault)
      (size_is : size ≡ length rows')
      (grown : size ≤ length rows + part_bytes part)
    where
      abbrev last : Listed
      last = record { part = part; from = from; to = to; fault = fault }

      to_here : to ≡ from + given_count (length rows' - length rows) (subsection_of part).fault
      to_here = to_is ∙ (ap (λ (f : Option Error). from + given_count (size - from) f) fault_is ∙ ap (λ (n : ℕ). from + given_count n (subsection_of part).fault) (let e : size - from ≡ length rows' - length rows = omega arith in e))

      small_here : to ≤ from + part_bytes part
      small_here = let below = count_below (size - from) fault in omega arith

      one_more : done ++ subsection_of part ∷ [] ≡ map subsection_of (take (i + 1) parts)
      one_more = ap (λ (p : LineSubsection). done ++ subsection_of p ∷ []) part_is ∙ sym (map_more subsection_of parts i part l)

      abbrev Next : List Listed → ℕ → Option Error → List Subsection → Type 0
      Next ls n f ss = IsPartly rows' ls n f ss

      on_none : (f : Option Error) → stop ≡ f → is_some f ≡ false → stop' ≡ (subsection_of part).fault → count' ≡ given_count (length rows') stop' → IsPartly rows' ls' count' stop' (map subsection_of (take (i + 1) parts))
      on_none None e n is counts =
          rw (listed, ← one_more) (goes_on rows ls count stop done partly rows' last shown alone from_is to_here fault_is small_here count' stop' e is counts)
      on_none (Some x) e n is counts = absurd cc

      on_fault : (f : Option Error) → stop ≡ f → is_some f ≡ true → IsPartly rows' ls' count stop (map subsection_of (take (i + 1) parts))
      on_fault None e n = absurd cc
      on_fault (Some x) e n =
          rw (listed, ← one_more) (stays rows ls count stop done partly rows' last shown alone from_is to_here fault_is small_here x e)

      pub step_on : (size' : ℕ) → size' ≡ length rows' → is_some stop ≡ false → stop' ≡ fault → count' ≡ given_count size' fault → IsPartly rows' ls' count' stop' (map subsection_of (take (i + 1) parts))
      step_on size' size_is n is counts =
          on_none stop refl n (is ∙ fault_is) (counts ∙ (ap (λ (n : ℕ). given_count n fault) size_is ∙ ap (given_count (length rows')) (sym is)))

      pub step_behind : is_some stop ≡ true → stop' ≡ stop → count' ≡ count → IsPartly rows' ls' count' stop' (map subsection_of (take (i + 1) parts))
      step_behind n is counts = rw (is, counts) (on_fault stop refl n)

-- the rows so far are no more than the bytes of the parts so far
pub few_more : (parts : List LineSubsection) (i : ℕ) (part : LineSubsection) (a b : ℕ) → part ≡ get_or parts i part → i < length parts → a ≤ sum_by part_bytes (take i parts) → b ≤ a + part_bytes part → b ≤ sum_by part_bytes (take (i + 1) parts)
few_more parts i part a b is l h k = omega (arith, sum_by_more part_bytes parts i part l, ap part_bytes is)
