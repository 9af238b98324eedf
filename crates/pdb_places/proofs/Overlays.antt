-- Layers of cuts: one laid over another, cut by cut.
use Rattle.std.proofs.Common.{◌≡◌, ℕ, zero, suc, ◌+◌, ◌-◌, ◌<◌, ◌≤◌, Bool, true, false, cond, List, [], ◌∷◌, ◌++◌, length, get_or, take, Option, None, refl, sym, ap, subst, ◌∙◌, arith, length-append}
use Rattle.std.specs.Prelude.{All, nat_le}
use Rattle.std.specs.Option.{option_or}
use Rattle.std.proofs.lemmas.Bool.{leb-true, leb-false}
use Rattle.std.proofs.lemmas.List.{take_more, take_all, get_or_default}
use Rattle.std.proofs.lemmas.List.Elements.{All-tail}
use Rattle.std.proofs.lemmas.List.Sorted.{IsNonDecreasingBy-push}
use Rattle.pdb_places.specs.declared.painted.Cut.{Cut}
use Rattle.pdb_places.specs.Painting.{start_of_cut, IsRising, owner_at, last_owner, IsOver}

-- ---- one more cut

pub owner_push : (x : ℕ) (o : Option ℕ) (cs : List Cut) (c : Cut) → owner_at x o (cs ++ c ∷ []) ≡ cond (nat_le c.start x) c.owner (owner_at x o cs)
owner_push x o [] c = refl
owner_push x o (d ∷ cs) c = owner_push x (cond (nat_le d.start x) d.owner o) cs c

pub last_push : (o : Option ℕ) (cs : List Cut) (c : Cut) → last_owner o (cs ++ c ∷ []) ≡ c.owner
last_push o [] c = refl
last_push o (d ∷ cs) c = last_push d.owner cs c

abbrev pub Upto : ℕ → List Cut → Type 0
Upto x cs = All (λ c. c.start ≤ x) cs

-- where all cuts are at or before a number, the last says what holds there
pub owner_last : (x : ℕ) (o : Option ℕ) (cs : List Cut) → Upto x cs → owner_at x o cs ≡ last_owner o cs
owner_last x o [] h = refl
owner_last x o (c ∷ cs) h =
    let here : c.start ≤ x = h 0 c (omega arith) in
    by_test (nat_le c.start x) refl here (owner_last x c.owner cs (All-tail (λ c. c.start ≤ x) c cs h))
  where
    by_test : (b : Bool) → nat_le c.start x ≡ b → c.start ≤ x → owner_at x c.owner cs ≡ last_owner c.owner cs → owner_at x (cond b c.owner o) cs ≡ last_owner c.owner cs
    by_test true e l rest = rest
    by_test false e l rest = let m = leb-false c.start x e in absurd (omega arith)

upto_more : (x y : ℕ) (cs : List Cut) → x ≤ y → Upto x cs → Upto y cs
upto_more x y cs l h k d m = let a = h k d m in omega arith

upto_push : (x : ℕ) (cs : List Cut) (c : Cut) → Upto x cs → c.start ≤ x → Upto x (cs ++ c ∷ [])
upto_push x [] c h l zero d m = l
upto_push x [] c h l (suc k) d m = absurd (omega arith)
upto_push x (b ∷ cs) c h l zero d m = h 0 b (omega arith)
upto_push x (b ∷ cs) c h l (suc k) d m = upto_push x cs c (All-tail (λ c. c.start ≤ x) b cs h) l k d (omega arith)

rising_push : (x : ℕ) (cs : List Cut) (c : Cut) → IsRising cs → Upto x cs → x ≤ c.start → IsRising (cs ++ c ∷ [])
rising_push x cs c rises upto l = IsNonDecreasingBy-push start_of_cut cs c rises (λ d m. let a = upto (length cs - 1) d (omega arith) in omega arith)

-- ---- the layers so far

-- of the first layer i cuts and of the second one j are laid; upper and lower are what the last of them say
pub record IsMerged (fs gs : List Cut) (i j : ℕ) (upper lower : Option ℕ) (hs : List Cut) : Type 0 where
  pub first : i ≤ length fs
  pub second : j ≤ length gs
  pub upper_is : upper ≡ last_owner None (take i fs)
  pub lower_is : lower ≡ last_owner None (take j gs)
  pub last_is : last_owner None hs ≡ option_or upper lower
  pub finds : (x : ℕ) → owner_at x None hs ≡ option_or (owner_at x None (take i fs)) (owner_at x None (take j gs))
  pub rises : IsRising hs
  pub long : length hs ≡ i + j
  pub upto : ℕ
  pub first_upto : Upto upto (take i fs)
  pub second_upto : Upto upto (take j gs)
  pub layer_upto : Upto upto hs
  pub first_from : (d : Cut) → i < length fs → upto ≤ (get_or fs i d).start
  pub second_from : (d : Cut) → j < length gs → upto ≤ (get_or gs j d).start

pub none_merged : (fs gs : List Cut) → IsMerged fs gs 0 0 None None []
none_merged fs gs = record {
  first = omega arith;
  second = omega arith;
  upper_is = refl;
  lower_is = refl;
  last_is = refl;
  finds = λ x. refl;
  rises = λ i j d l m. absurd (omega arith);
  long = refl;
  upto = 0;
  first_upto = λ k d l. absurd (omega arith);
  second_upto = λ k d l. absurd (omega arith);
  layer_upto = λ k d l. absurd (omega arith);
  first_from = λ d l. omega arith;
  second_from = λ d l. omega arith;
}

-- what two layers hold at a number, where a cut of the first one comes
first_finds : (b : Bool) (o u l a f g : Option ℕ) → o ≡ option_or u l → a ≡ option_or f g → (b ≡ true → g ≡ l) → cond b o a ≡ option_or (cond b u f) g
first_finds true o u l a f g e h k = let m = k refl in cc
first_finds false o u l a f g e h k = h

-- and where one of the second comes
second_finds : (b : Bool) (o u l a f g : Option ℕ) → o ≡ option_or u l → a ≡ option_or f g → (b ≡ true → f ≡ u) → cond b o a ≡ option_or f (cond b l g)
second_finds true o u l a f g e h k = let m = k refl in cc
second_finds false o u l a f g e h k = h

module _ (fs gs : List Cut) (i j : ℕ) (upper lower : Option ℕ) (hs : List Cut) (merged : IsMerged fs gs i j upper lower hs) (c e : Cut) (start : e.start ≡ c.start) where
  more : length (hs ++ e ∷ []) ≡ i + j + 1
  more = let l = merged.long in omega (arith, length-append hs (e ∷ []))

  -- the next cut is one of the first layer
  module _ (rises : IsRising fs) (there : i < length fs) (is : c ≡ get_or fs i c) (before : (d : Cut) → j < length gs → c.start ≤ (get_or gs j d).start) (owner : e.owner ≡ option_or c.owner lower) where
    first_taken : take (i + 1) fs ≡ take i fs ++ c ∷ []
    first_taken = take_more fs i c there ∙ ap (λ (d : Cut). take i fs ++ d ∷ []) (sym is)

    first_behind : merged.upto ≤ c.start
    first_behind = let l = merged.first_from c there in let s = ap start_of_cut is in omega arith

    first_at : (x : ℕ) → owner_at x None (hs ++ e ∷ []) ≡ option_or (owner_at x None (take (i + 1) fs)) (owner_at x None (take j gs))
    first_at x =
        rw (owner_push x None hs e, start, first_taken, owner_push x None (take i fs) c)
        (first_finds (nat_le c.start x) e.owner c.owner lower (owner_at x None hs) (owner_at x None (take i fs)) (owner_at x None (take j gs)) owner (merged.finds x)
        (λ t. let l = leb-true c.start x t in let b = first_behind in owner_last x None (take j gs) (upto_more merged.upto x (take j gs) (omega arith) merged.second_upto) ∙ sym merged.lower_is))

    pub first_more : IsMerged fs gs (i + 1) j c.owner lower (hs ++ e ∷ [])
    first_more = record {
      first = omega arith;
      second = merged.second;
      upper_is = sym (ap (last_owner None) first_taken ∙ last_push None (take i fs) c);
      lower_is = merged.lower_is;
      last_is = last_push None hs e ∙ owner;
      finds = first_at;
      rises = rising_push merged.upto hs e merged.rises merged.layer_upto (let b = first_behind in omega arith);
      long = let m = more in omega arith;
      upto = c.start;
      first_upto = subst (Upto c.start) (sym first_taken) (upto_push c.start (take i fs) c (upto_more merged.upto c.start (take i fs) first_behind merged.first_upto) (omega arith));
      second_upto = upto_more merged.upto c.start (take j gs) first_behind merged.second_upto;
      layer_upto = upto_push c.start hs e (upto_more merged.upto c.start hs first_behind merged.layer_upto) (omega arith);
      first_from = λ d l. let r = rises i (i + 1) d (omega arith) l in let s = ap start_of_cut (is ∙ get_or_default fs i c d there) in omega arith;
      second_from = before;
    }

  -- the next cut is one of the second layer
  module _ (rises : IsRising gs) (there : j < length gs) (is : c ≡ get_or gs j c) (before : (d : Cut) → i < length fs → c.start ≤ (get_or fs i d).start) (owner : e.owner ≡ option_or upper c.owner) where
    second_taken : take (j + 1) gs ≡ take j gs ++ c ∷ []
    second_taken = take_more gs j c there ∙ ap (λ (d : Cut). take j gs ++ d ∷ []) (sym is)

    second_behind : merged.upto ≤ c.start
    second_behind = let l = merged.second_from c there in let s = ap start_of_cut is in omega arith

    second_at : (x : ℕ) → owner_at x None (hs ++ e ∷ []) ≡ option_or (owner_at x None (take i fs)) (owner_at x None (take (j + 1) gs))
    second_at x =
        rw (owner_push x None hs e, start, second_taken, owner_push x None (take j gs) c)
        (second_finds (nat_le c.start x) e.owner upper c.owner (owner_at x None hs) (owner_at x None (take i fs)) (owner_at x None (take j gs)) owner (merged.finds x)
        (λ t. let l = leb-true c.start x t in let b = second_behind in owner_last x None (take i fs) (upto_more merged.upto x (take i fs) (omega arith) merged.first_upto) ∙ sym merged.upper_is))

    pub second_more : IsMerged fs gs i (j + 1) upper c.owner (hs ++ e ∷ [])
    second_more = record {
      first = merged.first;
      second = omega arith;
      upper_is = merged.upper_is;
      lower_is = sym (ap (last_owner None) second_taken ∙ last_push None (take j gs) c);
      last_is = last_push None hs e ∙ owner;
      finds = second_at;
      rises = rising_push merged.upto hs e merged.rises merged.layer_upto (let b = second_behind in omega arith);
      long = let m = more in omega arith;
      upto = c.start;
      first_upto = upto_more merged.upto c.start (take i fs) second_behind merged.first_upto;
      second_upto = subst (Upto c.start) (sym second_taken) (upto_push c.start (take j gs) c (upto_more merged.upto c.start (take j gs) second_behind merged.second_upto) (omega arith));
      layer_upto = upto_push c.start hs e (upto_more merged.upto c.start hs second_behind merged.layer_upto) (omega arith);
      first_from = before;
      second_from = λ d l. let r = rises j (j + 1) d (omega arith) l in let s = ap start_of_cut (is ∙ get_or_default gs j c d there) in omega arith;
    }

-- all cuts of both are laid
pub all_merged : (fs gs : List Cut) (i j : ℕ) (upper lower : Option ℕ) (hs : List Cut) → IsMerged fs gs i j upper lower hs → length fs ≤ i → length gs ≤ j → IsOver fs gs hs
all_merged fs gs i j upper lower hs m l k =
    let f : take i fs ≡ fs = take_all i fs l in
    let g : take j gs ≡ gs = take_all j gs k in
    let a = m.first in let b = m.second in let n = m.long in
    record {
      rises = m.rises;
      finds = λ x. m.finds x ∙ (ap (λ (l : List Cut). option_or (owner_at x None l) (owner_at x None (take j gs))) f ∙ ap (λ (l : List Cut). option_or (owner_at x None fs) (owner_at x None l)) g);
      last = m.last_is ∙ (ap (λ (o : Option ℕ). option_or o lower) (m.upper_is ∙ ap (last_owner None) f) ∙ ap (λ (o : Option ℕ). option_or (last_owner None fs) o) (m.lower_is ∙ ap (last_owner None) g));
      long = omega arith;
    }
