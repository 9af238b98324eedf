-- The rows of one subsection.
use Rattle.std.proofs.Common.{◌≡◌, ℕ, ◌+◌, ◌-◌, ◌<◌, ◌≤◌, true, List, [], ◌∷◌, map, length, get_or, take, drop, Option, refl, sym, ap, subst, ◌∙◌, arith}
use Rattle.std.proofs.lemmas.List.{length-map, take-map, drop-map, get_or-map}
use Rattle.std.specs.Option.{ForSome}
use Rattle.pdb_base.specs.declared.error.Error.{Error}
use Rattle.pdb_base.specs.Left.{Left}
use Rattle.pdb_modules.specs.declared.line_info.LineInfo.{LineInfo}
use Rattle.pdb_modules.specs.declared.rows.Row.{Row}
use Rattle.pdb_modules.specs.declared.line_program.Listed.{Listed}
use Rattle.pdb_modules.specs.Lines.{Subsection, lines_of}
use Rattle.pdb_modules.specs.KeptRows.{own, view_of, subsection_of, all_own}
use Rattle.pdb_modules.specs.LineProgram.{part_bytes, listed_subsections, IsResolved}
use Rattle.pdb_modules.proofs.RowRanges.{in_range, range_inside, range_fault, range_small}
use Rattle.pdb_modules.proofs.Faults.{alone_fault}
use Rattle.pdb_modules.proofs.OwnFaults.{IsOwn, part_own}

module _ (rows : List Row) (ls : List Listed) (count : ℕ) (stop : Option Error) (b : List ℕ) (resolved : IsResolved rows ls count stop b) (ss : List Subsection) (k : ℕ) (l : Listed) (seen : listed_subsections ls ≡ ss) (h : k < length ss) (l_is : l ≡ get_or ls k l) where
  there : k < length ls
  there = omega (arith, ap length seen, length-map ls (λ (l : Listed). subsection_of l.part))

  rows_counted : length rows ≡ length (all_own (listed_subsections ls))
  rows_counted = omega (arith, length-map rows own, ap length resolved.alone)

  abbrev In : Listed → Type 0
  In l = (l.from ≤ l.to) × (l.to ≤ length rows)

  pub range_in : In l
  range_in = subst In (sym l_is) (let r = range_inside 0 ls k l resolved.ranges there in (r.0, omega (arith, r.1, rows_counted)))

  abbrev Small : Listed → Type 0
  Small l = l.to ≤ l.from + part_bytes l.part

  pub range_few : Small l
  range_few = subst Small (sym l_is) (range_small 0 ls k l resolved.ranges there)

  abbrev Shown : Listed → Type 0
  Shown l = take (l.to - l.from) (drop l.from (all_own (listed_subsections ls))) ≡ (lines_of (subsection_of l.part ∷ [])).items

  shown_at : Shown l
  shown_at = subst Shown (sym l_is) (in_range [] 0 ls k l refl resolved.ranges there)

  shown_rows : map own (take (l.to - l.from) (drop l.from rows)) ≡ (lines_of (subsection_of l.part ∷ [])).items
  shown_rows =
      sym (take-map own (l.to - l.from) (drop l.from rows))
      ∙ (ap (take (l.to - l.from)) (sym (drop-map own l.from rows)) ∙ (ap (λ (rs : List LineInfo). take (l.to - l.from) (drop l.from rs)) resolved.alone ∙ shown_at))

  its_subsection : (d : Subsection) → subsection_of l.part ≡ get_or ss k d
  its_subsection d = ap (λ (l : Listed). subsection_of l.part) l_is ∙ (sym (get_or-map (λ (l : Listed). subsection_of l.part) ls k l d there) ∙ ap (λ (ss : List Subsection). get_or ss k d) seen)

  pub bytes_at_range : (b : List ℕ) → b ≡ l.part.bytes.now → (d : Subsection) → b ≡ (get_or ss k d).bytes
  bytes_at_range b is d = is ∙ ap (λ (s : Subsection). s.bytes) (its_subsection d)

  abbrev Told : Listed → Type 0
  Told l = l.fault ≡ (subsection_of l.part).fault

  pub own_at : ForSome l.fault IsOwn
  own_at = part_own l l.fault (subst Told (sym l_is) (range_fault 0 ls k l resolved.ranges there))

  its_fault : l.fault ≡ (lines_of (subsection_of l.part ∷ [])).fault
  its_fault = (let told : Told l = subst Told (sym l_is) (range_fault 0 ls k l resolved.ranges there) in told) ∙ alone_fault (subsection_of l.part)

  alone_left : record { items = map own (take (l.to - l.from) (drop l.from rows)); fault = l.fault } ≡ lines_of (subsection_of l.part ∷ [])
  alone_left = λ i. record { items = shown_rows i; fault = its_fault i }

  pub lines_at_range : (all front some : List Row) (left : Left LineInfo) → all ≡ rows → front ≡ drop l.from all → some ≡ take (l.to - l.from) front → left ≡ record { items = map (view_of true) some; fault = l.fault } → (d : Subsection) → left ≡ lines_of (get_or ss k d ∷ [])
  lines_at_range all front some left a f s is d =
      is
      ∙ (ap (λ (rs : List Row). record { items = map own rs; fault = l.fault }) (s ∙ (ap (take (l.to - l.from)) f ∙ ap (λ (rs : List Row). take (l.to - l.from) (drop l.from rs)) a))
      ∙ (alone_left ∙ ap (λ (s : Subsection). lines_of (s ∷ [])) (its_subsection d)))
