-- The pieces of a list of annotations, and what one turn of its iterator shows.
use Rattle.std.specs.Prelude.{◌==◌, nat_lt}
use Rattle.std.proofs.Common.{◌≡◌, ℕ, ◌-◌, ◌<◌, ◌≤◌, Bool, true, false, cond, option_map, List, [], ◌∷◌, length, Option, Some, None, Result, Ok, Err, refl, ap, ◌∙◌, ◌⊎◌, inl, inr, arith}
use Rattle.std.proofs.lemmas.Bool.Decides.{nat_tests}
use Rattle.pdb_base.specs.declared.error.Error.{Error}
use Rattle.pdb_base.specs.Refusal.{◌>>=◌}
use Rattle.pdb_base.specs.Left.{Left, Follows, Ends, ended}
use Rattle.pdb_base.specs.Tiling.{IsInside, listing, fault_at}
use Rattle.pdb_base.proofs.Places.{bind_ok}
use Rattle.pdb_base.proofs.Tilings.{gives_item, listing_stop, listing_end, then_fault}
use Rattle.pdb_symbols.specs.declared.annotations.BinaryAnnotation.{BinaryAnnotation}
use Rattle.pdb_symbols.specs.declared.annotations.BinaryAnnotation.TheVariants.{ChangeCodeLengthAndCodeOffset}
use Rattle.pdb_symbols.specs.declared.reading.Found.{Found}
use Rattle.pdb_symbols.specs.declared.spelling.Spelled.{Spelled}
use Rattle.pdb_symbols.specs.Spelling.{spelled_at}
use Rattle.pdb_symbols.specs.Annotations.{annotation_at, annotation_behind, annotations, one_operand, two_operands, with_operand, piece_of}

-- a spelling lies inside the bytes
spelled_inside : (b : List ℕ) (p : ℕ) (s : Spelled) → spelled_at b p ≡ Ok s → (p < s.end) × (s.end ≤ length b)
unfolding spelled_at
spelled_inside b p s e = (grind (arith, nat_tests), grind (arith, nat_tests))

-- an operand, or two, end behind where they begin
abbrev Within : List ℕ → ℕ → Found → Type 0
Within b p found = (p ≤ found.end) × (found.end ≤ length b)

abbrev made_of : ℕ → Spelled → Result Found Error
made_of opcode n = Ok (record { annotation = Some (with_operand opcode n.value); end = n.end })

abbrev made_of_two : Spelled → Spelled → Result Found Error
made_of_two n m = Ok (record { annotation = Some (ChangeCodeLengthAndCodeOffset n.value m.value); end = m.end })

one_inside : (opcode : ℕ) (b : List ℕ) (p : ℕ) (found : Found) → one_operand opcode b p ≡ Ok found → Within b p found
one_inside opcode b p found e =
    let (n, there, rest) = bind_ok (spelled_at b p) (made_of opcode) found e in
    let is : record { annotation = Some (with_operand opcode n.value); end = n.end } ≡ found = cc in
    let within = spelled_inside b p n there in
    rw (← is) (omega (arith, within), within.1)

two_inside : (b : List ℕ) (p : ℕ) (found : Found) → two_operands b p ≡ Ok found → Within b p found
two_inside b p found e =
    let (n, first, rest) = bind_ok (spelled_at b p) (λ n. spelled_at b n.end >>= λ m. made_of_two n m) found e in
    let (m, second, last) = bind_ok (spelled_at b n.end) (made_of_two n) found rest in
    let is : record { annotation = Some (ChangeCodeLengthAndCodeOffset n.value m.value); end = m.end } ≡ found = cc in
    let one = spelled_inside b p n first in
    let two = spelled_inside b n.end m second in
    rw (← is) (omega (arith, one, two), two.1)

one_of : {A : Type 0} (t : Bool) (x y r : A) → cond t x y ≡ r → (x ≡ r) ⊎ (y ≡ r)
one_of true x y r e = inl e
one_of false x y r e = inr e

behind_inside : (opcode : ℕ) (b : List ℕ) (p : ℕ) (found : Found) → p ≤ length b → annotation_behind opcode b p ≡ Ok found → Within b p found
unfolding annotation_behind
behind_inside opcode b p found h e = elim (one_of (opcode == 0) _ _ (Ok found) e) [
  | inl zero_is ↦ (let is : record { annotation = None; end = p } ≡ found = cc in rw (← is) (omega arith, h))
  | inr r ↦ (elim (one_of (nat_lt 13 opcode) _ _ (Ok found) r) [
    | inl unknown ↦ absurd cc
    | inr s ↦ (elim (one_of (opcode == 12) _ _ (Ok found) s) [
      | inl two ↦ two_inside b p found two
      | inr one ↦ one_inside opcode b p found one
    ])
  ])
]

-- what stands at a place takes some bytes
pub found_inside : (b : List ℕ) (p : ℕ) (found : Found) → annotation_at b p ≡ Ok found → (p < found.end) × (found.end ≤ length b)
unfolding annotation_at
found_inside b p found e =
    let (opcode, first, rest) = bind_ok (spelled_at b p) (λ opcode. annotation_behind opcode.value b opcode.end) found e in
    let one = spelled_inside b p opcode first in
    let two = behind_inside opcode.value b opcode.end found one.1 rest in
    (omega (arith, one, two), two.1)

piece_is : (p k : ℕ) (r : Result Found Error) → piece_of p r ≡ Some k → (found : Found) × (r ≡ Ok found) × (found.end - p ≡ k)
piece_is p k (Ok found) e = (found, refl, ends found.annotation e)
  where
    ends : (o : Option BinaryAnnotation) → option_map (λ a. found.end - p) o ≡ Some k → found.end - p ≡ k
    ends None q = absurd cc
    ends (Some a) q = cc
piece_is p k (Err d) e = absurd cc

pub annotations_inside : IsInside annotations
annotations_inside = record {
  inside = λ b p k e.
      let (found, there, ends) = piece_is p k (annotation_at b p) e in
      let within = found_inside b p found there in
      rw (← ends) (omega (arith, within), omega (arith, within));
}

-- ---- one turn

pub annotation_left : (b : List ℕ) (p : ℕ) (a : BinaryAnnotation) (found : Found) → annotation_at b p ≡ Ok found → found.annotation ≡ Some a → Follows (listing annotations b p) (a ∷ []) (listing annotations b found.end)
annotation_left b p a found there is =
    let within = found_inside b p found there in
    let piece : annotations.piece b p ≡ Some (found.end - p) = rw (there, is) refl in
    let item : annotations.item b p (found.end - p) ≡ Some a = rw (there, is) refl in
    gives_item annotations annotations_inside (λ a. a) b p a found.end (within.0, within.1, piece, item)

-- a 0 ends the list
pub zero_left : (b : List ℕ) (p : ℕ) (found : Found) → annotation_at b p ≡ Ok found → found.annotation ≡ None → Ends (listing annotations b p) [] None (listing annotations b (length b))
zero_left b p found there is =
    let piece : annotations.piece b p ≡ None = rw (there, is) refl in
    let none : fault_at annotations b p ≡ None = rw there (either (nat_lt p (length b)) None) in
    let stops = listing_stop annotations b p piece in
    (ap (λ (l : Left BinaryAnnotation). l.items) stops, ap (λ (l : Left BinaryAnnotation). l.fault) stops ∙ none, listing_end annotations b (length b) (omega arith))
  where
    either : (t : Bool) (o : Option Error) → cond t o o ≡ o
    either true o = refl
    either false o = refl

pub refused_left : (b : List ℕ) (p : ℕ) (e : Error) → p < length b → annotation_at b p ≡ Err e → Ends (listing annotations b p) [] (Some e) (listing annotations b (length b))
refused_left b p e before there =
    let piece : annotations.piece b p ≡ None = rw there refl in
    let fault : annotations.fault b p ≡ Some e = rw there refl in
    then_fault annotations annotations_inside (λ (a : BinaryAnnotation). a) (listing annotations b p) b b p refl e 0 (length b) refl before (piece, fault) (omega arith)

pub end_left : (b : List ℕ) (p : ℕ) → length b ≤ p → Ends (listing annotations b p) [] None (listing annotations b p)
end_left b p past = let left = listing_end annotations b p past in (ap (λ (l : Left BinaryAnnotation). l.items) left, ap (λ (l : Left BinaryAnnotation). l.fault) left, left)

pub nothing_left : (b : List ℕ) (p : ℕ) → length b ≤ p → listing annotations b p ≡ ended
nothing_left b p past = listing_end annotations b p past
