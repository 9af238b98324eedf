-- Texts of declarations, a piece at a time.
use Rattle.std.proofs.Common.{◌≡◌, ℕ, ◌+◌, ◌≤◌, ◌<◌, List, ◌++◌, length, drop, ap, ◌∙◌, inl, inr, arith, append_assoc}
use Rattle.std.specs.Prelude.{Result, Ok, Err, OnOk}
use Rattle.std.proofs.lemmas.Bool.{cases_lt}
use Rattle.std.proofs.lemmas.List.{take_all, take_at, length-append, length-take}
use Rattle.std.proofs.Math.Seq.{drop-append_seam}
use Rattle.pdb_types.specs.Cuts.{IsCut}
use Rattle.pdb_types.specs.Declarations.{blank_behind}
use Rattle.pdb_types.proofs.CutLemmas.{cut_full, cut_then, on_then}

-- where all of a text stands there, what is seen of it is the text
whole_behind : (limit : ℕ) (before front middle : List ℕ) → IsCut limit before front middle → length before + length front ≤ limit → drop (length before) middle ≡ front
whole_behind limit before front middle cut room =
    let sized : length (before ++ front) ≡ length before + length front = length-append before front in
    let whole : middle ≡ before ++ front = cut.is ∙ take_all limit (before ++ front) (omega (arith, sized, room)) in
    ap (drop (length before)) whole ∙ drop-append_seam before front

-- where it doesn't, no room is left
no_room : (limit : ℕ) (before front middle : List ℕ) → IsCut limit before front middle → limit < length before + length front → length middle ≡ limit
no_room limit before front middle cut long =
    let sized : length (before ++ front) ≡ length before + length front = length-append before front in
    let taken = ap length cut.is ∙ length-take limit (before ++ front) in
    omega (arith, sized, taken, long)

blank_cut : (limit : ℕ) (before front middle now : List ℕ) → IsCut limit before front middle → IsCut limit middle (blank_behind (drop (length before) middle)) now → IsCut limit before (front ++ blank_behind front) now
blank_cut limit before front middle now cut blank = elim (cases_lt limit (length before + length front)) [
  | inl long ↦ (
      let full = no_room limit before front middle cut long in
      let same : now ≡ middle = blank.is ∙ take_at middle (blank_behind (drop (length before) middle)) limit full in
      rw same (cut_then limit before front (blank_behind front) middle middle cut (cut_full limit middle (blank_behind front) (omega (arith, full)) (omega (arith, full)))))
  | inr room ↦ (
      let seen = whole_behind limit before front middle cut room in
      cut_then limit before front (blank_behind front) middle now cut (rw (← seen) blank))
]

pub front_then : {E : Type 0} (r : Result (Unit {0}) E) (limit : ℕ) (before front middle now : List ℕ) → IsCut limit before front middle → OnOk r (IsCut limit middle (blank_behind (drop (length before) middle)) now) → OnOk r (IsCut limit before (front ++ blank_behind front) now)
front_then (Ok x) limit before front middle now cut blank = blank_cut limit before front middle now cut blank
front_then (Err e) limit before front middle now cut blank = blank

pub declared_parts : {E : Type 0} (r : Result (Unit {0}) E) (limit : ℕ) (before front blank name back one two now : List ℕ) → IsCut limit before (front ++ blank) one → IsCut limit one name two → OnOk r (IsCut limit two back now) → OnOk r (IsCut limit before (front ++ (blank ++ (name ++ back))) now)
declared_parts r limit before front blank name back one two now a b c = rw (← append_assoc front blank (name ++ back)) (on_then r limit before (front ++ blank) (name ++ back) one now a (on_then r limit one name back two now b c))
