-- Entries that can only end a record before a place.
use Rattle.std.proofs.Common.{◌≡◌, ℕ, zero, suc, ◌+◌, ◌-◌, ◌<◌, ◌≤◌, Bool, true, false, cond, leb, ltb, ◌&&◌, ◌==◌, List, map, take, Option, Some, None, option_map, refl, sym, ap, subst, ◌∙◌, arith}
use Rattle.std.proofs.lemmas.Bool.{leb-true}
use Rattle.std.specs.Prelude.{is_none}
use Rattle.pdb_base.specs.declared.index.PdbInternalSectionOffset.{PdbInternalSectionOffset}
use Rattle.pdb_modules.specs.declared.line_info.LineInfo.{LineInfo}
use Rattle.pdb_modules.specs.declared.line_search.Begun.{Begun}
use Rattle.pdb_modules.specs.Blocks.{LineBlock, entry_of, entries_of}
use Rattle.pdb_modules.specs.LineCover.{length_covers, line_covers}
use Rattle.pdb_modules.specs.Lines.{distance, lesser, behind, entry_mark}
use Rattle.pdb_modules.specs.KeptRows.{nearer, after}
use Rattle.pdb_modules.specs.LineSearch.{begun_line, begun_of, if_covers, is_open, IsSearched, ArePassed}
use Rattle.pdb_modules.proofs.BlockLemmas.{entry_is, entries_counted}
use Rattle.pdb_modules.proofs.PartLemmas.{entry_whole}
use Rattle.pdb_modules.proofs.LineSearches.{at_record}

no_byte : (a b : Bool) → a && (b && false) ≡ false
no_byte true true = refl
no_byte true false = refl
no_byte false b = refl

forward : (a : Bool) (m n : ℕ) → a && leb m n ≡ true → m ≤ n
forward true m n e = leb-true m n e
forward false m n e = absurd cc

not_less : (m n : ℕ) → n ≤ m → ltb m n ≡ false
not_less m n h = grind arith

module _ (q r p : PdbInternalSectionOffset) (h : p.offset ≤ q.offset) where
  by_test : (t : Bool) → (r.section == p.section) && leb r.offset p.offset ≡ t → length_covers q r (cond t (Some (p.offset - r.offset)) None) ≡ false
  by_test false e = refl
  by_test true e =
      let f = forward (r.section == p.section) r.offset p.offset e in
      ap (λ (b : Bool). (r.section == q.section) && (leb r.offset q.offset && b)) (not_less q.offset (r.offset + (p.offset - r.offset)) (omega arith))
      ∙ no_byte (r.section == q.section) (leb r.offset q.offset)

  -- a record that ends there or before it has no byte at the place
  ends_before : length_covers q r (distance r p) ≡ false
  ends_before = by_test _ refl

none_is : (o : Option ℕ) → is_none o ≡ true → o ≡ None
none_is None e = refl
none_is (Some x) e = absurd cc

not_reached : (q p : PdbInternalSectionOffset) (last : Option Begun) → is_open last ≡ true → p.offset ≤ q.offset → if_covers q (option_map (nearer p) (option_map begun_line last)) ≡ None
not_reached q p None o h = refl
not_reached q p (Some b) o h =
    let none : b.length ≡ None = none_is b.length o in
    let covers : line_covers q (nearer p (begun_line b)) ≡ false = ap (λ (n : Option ℕ). length_covers q b.place (lesser n (distance b.place p))) none ∙ ends_before q b.place p h in
    ap (λ (t : Bool). cond t (Some (nearer p (begun_line b))) None) covers

module _ (q p : PdbInternalSectionOffset) (columns : Bool) (block : LineBlock) (rs : List LineInfo) (last : Option Begun) (s : IsSearched q rs last) (o : is_open last ≡ true) where
  last_at : ℕ → Option Begun
  last_at zero = last
  last_at (suc n) = Some (begun_of p (entry_of columns block n))

  open_at : (n : ℕ) → is_open (last_at n) ≡ true
  unfolding last_at
  open_at zero = o
  open_at (suc n) = refl

  searched_to : (n : ℕ) → n ≤ block.count → ArePassed q p columns block n → IsSearched q (after rs (map (entry_mark p) (take n (entries_of columns block)))) (last_at n)
  unfolding last_at
  searched_to zero l h = s
  searched_to (suc n) l h =
      let x = entry_of columns block n in
      let before = searched_to n (omega arith) (λ k m. h k (omega arith)) in
      let here = h n (omega arith) in
      let there : n < block.count = omega arith in
      let one : suc n ≡ n + 1 = omega arith in
      subst (λ (m : ℕ). IsSearched q (after rs (map (entry_mark p) (take m (entries_of columns block)))) (Some (begun_of p x))) (sym one)
      (subst (λ (xs : List LineInfo). IsSearched q xs (Some (begun_of p x)))
      (entry_whole p (behind p x.offset) (entries_of columns block) n x x (sym (entry_is columns block n x there)) refl refl (omega (arith, entries_counted columns block)) rs _ _ refl refl)
      (at_record q (after rs (map (entry_mark p) (take n (entries_of columns block)))) (last_at n) before (behind p x.offset) x.line here.begins (not_reached q (behind p x.offset) (last_at n) (open_at n) here.upto)))

  pub passed_to : (n k : ℕ) → n ≡ suc k → n ≤ block.count → ArePassed q p columns block n → IsSearched q (after rs (map (entry_mark p) (take n (entries_of columns block)))) (Some (begun_of p (entry_of columns block k)))
  unfolding last_at
  passed_to n k e l h = subst (λ (m : ℕ). IsSearched q (after rs (map (entry_mark p) (take n (entries_of columns block)))) (last_at m)) e (searched_to n l h)
