-- Records that may be code, among those of a list of symbols.
use Rattle.std.proofs.Common.{◌≡◌, ℕ, ◌+◌, ◌-◌, ◌<◌, ◌≤◌, Bool, true, false, cond, List, [], ◌∷◌, ◌++◌, length, map, min, take, drop, Option, Some, None, Ok, Err, refl, sym, ap, ◌∙◌, arith}
use Rattle.std.specs.Prelude.{◌==◌, IfSome, filter_map, if◌then◌else◌, nat_lt}
use Rattle.std.specs.Option.{is_none}
use Rattle.std.specs.List.{filter, cons_option}
use Rattle.std.proofs.lemmas.Bool.Decides.{nat_tests}
use Rattle.std.proofs.lemmas.List.{length-drop, length-take}
use Rattle.pdb_base.specs.declared.error.Error.{Error}
use Rattle.pdb_base.specs.declared.error.Error.TheVariants.{UnexpectedEof, SymbolTooShort}
use Rattle.pdb_base.specs.Fields.{number}
use Rattle.pdb_base.specs.Left.{Left}
use Rattle.pdb_base.specs.Tiling.{fault_at, listing}
use Rattle.pdb_base.proofs.Tilings.{listing_item, listing_padding, listing_stop, listing_end}
use Rattle.pdb_symbols.specs.declared.symbol.Symbol.{Symbol}
use Rattle.pdb_symbols.specs.SymbolList.{Entry, symbols, symbols_from, symbol_of_bytes, is_padding}
use Rattle.pdb_symbols.specs.Views.{symbol_of}
use Rattle.pdb_symbols.proofs.SymbolSteps.{symbols_inside}
use Rattle.pdb.specs.ModuleStream.{ModuleBytes, symbols_at_of, symbols_part_of}
use Rattle.pdb_code.specs.ModuleCode.{symbols_in}
use Rattle.pdb_code.specs.CodeRecords.{IsRecord, code_left, is_code_kind, may_be_code}

-- ---- whole records

pub no_head : (b : List ℕ) (p : ℕ) → p ≤ length b → length b - p < 4 → symbols.piece b p ≡ None
no_head b p h few = grind (arith, nat_tests)

pub no_record : (b : List ℕ) (p : ℕ) → p ≤ length b → length b - p - 2 < number b p 2 → symbols.piece b p ≡ None
no_record b p h few = grind (arith, nat_tests)

pub short_record : (b : List ℕ) (p : ℕ) → number b p 2 < 2 → symbols.piece b p ≡ None
short_record b p few = grind (arith, nat_tests)

pub a_record : (b : List ℕ) (p : ℕ) (s : List ℕ) → p + 4 ≤ length b → 2 ≤ number b p 2 → number b p 2 ≤ length b - p - 2 → s ≡ take (number b p 2) (drop (p + 2) b) → IsRecord b p s
a_record b p s there long fits is =
    let n = number b p 2 in
    let size : length s ≡ n = ap length is ∙ grind (arith, length-take {A = ℕ}, length-drop {A = ℕ}) in
    record { piece = rw size (grind (arith, nat_tests)); bytes = sym is; kind = omega arith; inside = omega arith }

-- ---- what they make

-- records that fill a gap are no code
padding_is_none : (k : ℕ) → is_padding k ≡ true → is_code_kind k ≡ false
padding_is_none k e = by (k == 0x0402) refl (k == 7) refl
  where
    by : (t : Bool) → (k == 0x0402) ≡ t → (u : Bool) → (k == 7) ≡ u → is_code_kind k ≡ false
    by true q u r = let same : k ≡ 0x0402 = grind (arith, nat_tests) in rw same refl
    by false q true r = let same : k ≡ 7 = grind (arith, nat_tests) in rw same refl
    by false q false r = let no : true ≡ false = sym e ∙ rw (q, r) refl in absurd cc

filter_takes : (x : Entry) (xs ys : List Entry) → may_be_code x ≡ true → xs ≡ x ∷ ys → filter may_be_code xs ≡ x ∷ filter may_be_code ys
filter_takes x xs ys t e = rw (e, t) refl

filter_drops : (x : Entry) (xs ys : List Entry) → may_be_code x ≡ false → xs ≡ x ∷ ys → filter may_be_code xs ≡ filter may_be_code ys
filter_drops x xs ys t e = rw (e, t) refl

module _ (b : List ℕ) (p : ℕ) (s : List ℕ) (is : IsRecord b p s) where
  abbrev it : Entry
  it = record { index = p; bytes = s }

  item_is : (t : Bool) → is_padding (number s 0 2) ≡ t → symbols.item b p (2 + length s) ≡ cond t None (Some it)
  item_is t e = ap (λ (c : List ℕ). symbol_of_bytes p c) is.bytes ∙ rw e refl

  next_is : (q : ℕ) → q ≡ p + 2 + length s → p + (2 + length s) ≡ q
  next_is q e = omega arith

  follows : (q : ℕ) → q ≡ p + 2 + length s → is_padding (number s 0 2) ≡ false → (listing symbols b p).items ≡ it ∷ (listing symbols b q).items
  follows q e plain = (listing_item symbols symbols_inside b p (2 + length s) it is.piece (item_is false plain)).0 ∙ ap (λ (k : ℕ). it ∷ (listing symbols b k).items) (next_is q e)

  not_padding : is_code_kind (number s 0 2) ≡ true → is_padding (number s 0 2) ≡ false
  not_padding code = by (is_padding (number s 0 2)) refl
    where
      by : (t : Bool) → is_padding (number s 0 2) ≡ t → t ≡ false
      by true q = let no : true ≡ false = sym code ∙ padding_is_none (number s 0 2) q in absurd cc
      by false q = refl

  -- one that may be code is the next of those
  pub takes : (q : ℕ) → q ≡ p + 2 + length s → is_code_kind (number s 0 2) ≡ true → code_left b p ≡ it ∷ code_left b q
  takes q e code = filter_takes it _ _ code (follows q e (not_padding code))

  -- another one is passed
  pub skips : (q : ℕ) → q ≡ p + 2 + length s → is_code_kind (number s 0 2) ≡ false → code_left b p ≡ code_left b q
  skips q e none = by (is_padding (number s 0 2)) refl
    where
      by : (t : Bool) → is_padding (number s 0 2) ≡ t → code_left b p ≡ code_left b q
      by true r = ap (λ (l : Left Entry). filter may_be_code l.items) (listing_padding symbols symbols_inside b p (2 + length s) is.piece (item_is true r)) ∙ ap (code_left b) (next_is q e)
      by false r = filter_drops it _ _ none (follows q e r)

  -- what is wrong behind it is what is wrong before it
  pub same_fault : (q : ℕ) → q ≡ p + 2 + length s → (listing symbols b p).fault ≡ (listing symbols b q).fault
  same_fault q e = by (is_padding (number s 0 2)) refl
    where
      by : (t : Bool) → is_padding (number s 0 2) ≡ t → (listing symbols b p).fault ≡ (listing symbols b q).fault
      by true r = ap (λ (l : Left Entry). l.fault) (listing_padding symbols symbols_inside b p (2 + length s) is.piece (item_is true r)) ∙ ap (λ (k : ℕ). (listing symbols b k).fault) (next_is q e)
      by false r = (listing_item symbols symbols_inside b p (2 + length s) it is.piece (item_is false r)).1 ∙ ap (λ (k : ℕ). (listing symbols b k).fault) (next_is q e)

-- none comes where no whole record is
pub stops : (b : List ℕ) (p : ℕ) → symbols.piece b p ≡ None → code_left b p ≡ []
stops b p none = ap (λ (l : Left Entry). filter may_be_code l.items) (listing_stop symbols b p none)

-- and there the list is whole exactly at its end
pub whole_at_end : (b : List ℕ) (p : ℕ) → p ≤ length b → symbols.piece b p ≡ None → (p == length b) ≡ is_none (listing symbols b p).fault
whole_at_end b p inside none = by (nat_lt p (length b)) refl ∙ ap (λ (l : Left Entry). is_none l.fault) (sym (listing_stop symbols b p none))
  where
    by : (t : Bool) → nat_lt p (length b) ≡ t → (p == length b) ≡ is_none (fault_at symbols b p)
    by true e = rw e (by_head (nat_lt (length b) (p + 2)) (nat_lt (number b p 2) 2))
      where
        by_head : (t u : Bool) → (p == length b) ≡ is_none (if t then Some UnexpectedEof else if u then Some SymbolTooShort else Some UnexpectedEof)
        by_head true u = grind (arith, nat_tests)
        by_head false true = grind (arith, nat_tests)
        by_head false false = grind (arith, nat_tests)
    by false e = rw e (grind (arith, nat_tests))

-- ---- what is told of the others alone

pub told_by_code : {B : Type 0} (of : Entry → Option B) → ((s : Entry) → may_be_code s ≡ false → of s ≡ None) → (xs : List Entry) → filter_map of xs ≡ filter_map of (filter may_be_code xs)
told_by_code of none [] = refl
told_by_code of none (x ∷ xs) = by (may_be_code x) refl (told_by_code of none xs)
  where
    by : (t : Bool) → may_be_code x ≡ t → filter_map of xs ≡ filter_map of (filter may_be_code xs) → filter_map of (x ∷ xs) ≡ filter_map of (filter may_be_code (x ∷ xs))
    by true q more = rw q (ap (cons_option (of x)) more)
    by false q more = rw (q, none x q) more

pub some_taken : (o : Option Symbol) (x : Entry) (xs ys : List Entry) → IfSome o (λ s. symbol_of s ≡ x) → xs ≡ x ∷ ys → IfSome o (λ s. xs ≡ symbol_of s ∷ ys)
some_taken None x xs ys h e = tt
some_taken (Some s) x xs ys h e = e ∙ ap (λ (y : Entry). y ∷ ys) (sym h)

-- ---- where a list of symbols begins

module _ {B : Type 0} (of : Entry → Option B) (none : (s : Entry) → may_be_code s ≡ false → of s ≡ None) (b : List ℕ) (at : ℕ) (first : at ≡ min 4 (length b)) where
  all_told : filter_map of (code_left b at) ≡ filter_map of (symbols_from b 4).items
  all_told = rw first (sym (told_by_code of none (symbols_from b 4).items))

  pub begins : (xs : List B) → xs ≡ [] → xs ++ filter_map of (code_left b at) ≡ filter_map of (symbols_from b 4).items
  begins xs e = rw e all_told

  pub begins_mapped : {C : Type 0} (f : B → C) (xs : List C) → xs ≡ [] → xs ++ map f (filter_map of (code_left b at)) ≡ map f (filter_map of (symbols_from b 4).items)
  begins_mapped f xs e = rw e (ap (map f) all_told)

pub symbols_read : (m : ModuleBytes) (s : List ℕ) → symbols_part_of m ≡ Ok s → symbols_in m ≡ (symbols_from s 4).items
unfolding symbols_in symbols_at_of
symbols_read m s e = rw e refl

pub symbols_unread : (m : ModuleBytes) (e : Error) → symbols_part_of m ≡ Err e → symbols_in m ≡ (symbols_from [] 4).items
unfolding symbols_in symbols_at_of
symbols_unread m e q = rw q (sym (ap (λ (l : Left Entry). l.items) (listing_end symbols [] 0 (omega arith))))
