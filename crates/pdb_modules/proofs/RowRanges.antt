-- Ranges of rows that stand one after another.
use Rattle.std.proofs.Common.{◌≡◌, ℕ, zero, suc, ◌+◌, ◌-◌, ◌<◌, ◌≤◌, List, [], ◌∷◌, ◌++◌, length, get_or, take, drop, sym, ap, ◌∙◌, arith, append_assoc, length-append}
use Rattle.std.proofs.lemmas.List.{drop_at, take-append-le}
use Rattle.pdb_modules.specs.declared.line_info.LineInfo.{LineInfo}
use Rattle.pdb_modules.specs.declared.line_program.Listed.{Listed}
use Rattle.pdb_modules.specs.Lines.{lines_of}
use Rattle.pdb_modules.specs.KeptRows.{subsection_of, own_records, all_own, given_count}
use Rattle.pdb_modules.specs.LineProgram.{part_bytes, listed_subsections, AreRanges}
use Rattle.pdb_modules.proofs.Faults.{alone_items, count_below}

-- one more range
pub ranges_more : (start : ℕ) (ls : List Listed) (l : Listed) → AreRanges start ls → l.from ≡ start + length (all_own (listed_subsections ls)) → l.to ≡ l.from + given_count (length (own_records (subsection_of l.part))) (subsection_of l.part).fault → l.fault ≡ (subsection_of l.part).fault → l.to ≤ l.from + part_bytes l.part → AreRanges start (ls ++ l ∷ [])
ranges_more start [] l r f t g h = (omega arith, omega arith, g, h, tt)
ranges_more start (x ∷ ls) l r f t g h =
    (r.0, r.1, r.2, r.3, ranges_more (start + length (own_records (subsection_of x.part))) ls l r.4 (omega (arith, length-append (own_records (subsection_of x.part)) (all_own (listed_subsections ls)))) t g h)

-- the records in a range
pub in_range : (before : List LineInfo) (start : ℕ) (ls : List Listed) (k : ℕ) (d : Listed) → length before ≡ start → AreRanges start ls → k < length ls → take ((get_or ls k d).to - (get_or ls k d).from) (drop (get_or ls k d).from (before ++ all_own (listed_subsections ls))) ≡ (lines_of (subsection_of (get_or ls k d).part ∷ [])).items
in_range before start [] k d e r h = absurd (omega arith)
in_range before start (l ∷ ls) zero d e r h =
    let mine = own_records (subsection_of l.part) in
    let others = all_own (listed_subsections ls) in
    let n = given_count (length mine) (subsection_of l.part).fault in
    let n_is : l.to - l.from ≡ n = let a = r.0 in let b = r.1 in omega arith in
    let at : length before ≡ l.from = let a = r.0 in omega arith in
    ap (λ (m : ℕ). take m (drop l.from (before ++ (mine ++ others)))) n_is
    ∙ (ap (take n) (drop_at before (mine ++ others) l.from at)
    ∙ (take-append-le n mine others (count_below (length mine) (subsection_of l.part).fault) ∙ alone_items (subsection_of l.part)))
in_range before start (l ∷ ls) (suc k) d e r h =
    let mine = own_records (subsection_of l.part) in
    let others = all_own (listed_subsections ls) in
    ap (λ (rs : List LineInfo). take ((get_or ls k d).to - (get_or ls k d).from) (drop (get_or ls k d).from rs)) (sym (append_assoc before mine others))
    ∙ in_range (before ++ mine) (start + length mine) ls k d (omega (arith, length-append before mine)) r.4 (omega arith)

-- a range lies inside
pub range_inside : (start : ℕ) (ls : List Listed) (k : ℕ) (d : Listed) → AreRanges start ls → k < length ls → ((get_or ls k d).from ≤ (get_or ls k d).to) × ((get_or ls k d).to ≤ start + length (all_own (listed_subsections ls)))
range_inside start [] k d r h = absurd (omega arith)
range_inside start (l ∷ ls) zero d r h =
    let mine = own_records (subsection_of l.part) in
    let below = count_below (length mine) (subsection_of l.part).fault in
    let a = r.0 in let b = r.1 in
    (omega arith, omega (arith, length-append mine (all_own (listed_subsections ls))))
range_inside start (l ∷ ls) (suc k) d r h =
    let mine = own_records (subsection_of l.part) in
    let rest = range_inside (start + length mine) ls k d r.4 (omega arith) in
    (rest.0, omega (arith, length-append mine (all_own (listed_subsections ls)), rest.1))

-- the fault behind a range
pub range_fault : (start : ℕ) (ls : List Listed) (k : ℕ) (d : Listed) → AreRanges start ls → k < length ls → (get_or ls k d).fault ≡ (subsection_of (get_or ls k d).part).fault
range_fault start [] k d r h = absurd (omega arith)
range_fault start (l ∷ ls) zero d r h = r.2
range_fault start (l ∷ ls) (suc k) d r h = range_fault (start + length (own_records (subsection_of l.part))) ls k d r.4 (omega arith)

-- a range has no more rows than bytes
pub range_small : (start : ℕ) (ls : List Listed) (k : ℕ) (d : Listed) → AreRanges start ls → k < length ls → (get_or ls k d).to ≤ (get_or ls k d).from + part_bytes (get_or ls k d).part
range_small start [] k d r h = absurd (omega arith)
range_small start (l ∷ ls) zero d r h = r.3
range_small start (l ∷ ls) (suc k) d r h = range_small (start + length (own_records (subsection_of l.part))) ls k d r.4 (omega arith)
