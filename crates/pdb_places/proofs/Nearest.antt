-- The nearest public symbol before a place.
use Rattle.std.proofs.Common.{◌≡◌, ℕ, zero, suc, ◌+◌, ◌<◌, ◌≤◌, inl, inr, Bool, true, false, cond, ◌&&◌, List, [], ◌∷◌, length, get_or, Option, Some, None, refl, sym, ap, ◌∙◌, arith}
use Rattle.std.specs.Prelude.{nat_le, nat_lt, ◌==◌}
use Rattle.std.specs.List.{cons_option}
use Rattle.std.specs.Option.{option_to_list}
use Rattle.std.proofs.lemmas.List.{get_or_default}
use Rattle.std.proofs.lemmas.Bool.{cases_lt, eq-eqb, eqb-true, le-leb, leb-true, lt-ltb, ltb-true, ltb-false}
use Rattle.pdb.specs.PdbInternalSectionOffset.{PdbInternalSectionOffset}
use Rattle.pdb.specs.SymbolList.{Entry}
use Rattle.pdb_places.specs.PublicNames.{PublicAt, public_of, publics_among, StandsUpto, IsNearest, stands_upto, nearer, public_before}
use Rattle.pdb_places.specs.PublicTable.{if_upto}

-- ---- the nearer of several

pub nearer_none : (o : Option PublicAt) → nearer o None ≡ o
nearer_none None = refl
nearer_none (Some p) = refl

-- by the tests of three
three : (p r s : PublicAt) (a b c : Bool) → nat_lt p.place.offset r.place.offset ≡ a → nat_lt r.place.offset s.place.offset ≡ b → nat_lt p.place.offset s.place.offset ≡ c
    → nearer (Some p) (cond b (Some s) (Some r)) ≡ nearer (cond a (Some r) (Some p)) (Some s)
three p r s true true c e f g =
    let x = ltb-true p.place.offset r.place.offset e in let y = ltb-true r.place.offset s.place.offset f in
    ap (λ (t : Bool). cond t (Some s) (Some p)) (lt-ltb p.place.offset s.place.offset (omega (arith, x, y)))
    ∙ sym (ap (λ (t : Bool). cond t (Some s) (Some r)) f)
three p r s true false c e f g =
    ap (λ (t : Bool). cond t (Some r) (Some p)) e ∙ sym (ap (λ (t : Bool). cond t (Some s) (Some r)) f)
three p r s false true c e f g = refl
three p r s false false true e f g =
    let x = ltb-false p.place.offset r.place.offset e in let y = ltb-false r.place.offset s.place.offset f in let z = ltb-true p.place.offset s.place.offset g in
    absurd (omega (arith, x, y, z))
three p r s false false false e f g =
    ap (λ (t : Bool). cond t (Some r) (Some p)) e ∙ sym (ap (λ (t : Bool). cond t (Some s) (Some p)) g)

pub nearer_assoc : (x y z : Option PublicAt) → nearer x (nearer y z) ≡ nearer (nearer x y) z
nearer_assoc None y z = refl
nearer_assoc (Some p) None z = refl
nearer_assoc (Some p) (Some r) None = sym (nearer_none (nearer (Some p) (Some r)))
nearer_assoc (Some p) (Some r) (Some s) = three p r s (nat_lt p.place.offset r.place.offset) (nat_lt r.place.offset s.place.offset) (nat_lt p.place.offset s.place.offset) refl refl refl

-- one more symbol
more_before : (q : PdbInternalSectionOffset) (o : Option PublicAt) (ps : List PublicAt) → public_before q (cons_option o ps) ≡ nearer (if_upto q o) (public_before q ps)
more_before q None ps = refl
more_before q (Some p) ps = refl

pub one_nearer : (q : PdbInternalSectionOffset) (s : Entry) (old new : List Entry) (best next all : Option PublicAt)
    → old ≡ s ∷ new → next ≡ nearer best (if_upto q (public_of s)) → nearer best (public_before q (publics_among old)) ≡ all → nearer next (public_before q (publics_among new)) ≡ all
one_nearer q s old new best next all follows is before =
    ap (λ (o : Option PublicAt). nearer o (public_before q (publics_among new))) is
    ∙ (sym (nearer_assoc best (if_upto q (public_of s)) (public_before q (publics_among new)))
    ∙ (ap (nearer best) (sym (more_before q (public_of s) (publics_among new)))
    ∙ (ap (λ (ss : List Entry). nearer best (public_before q (publics_among ss))) (sym follows) ∙ before)))

more_count : (o : Option PublicAt) (ps : List PublicAt) → length (cons_option o ps) ≡ length (option_to_list o) + length ps
more_count None ps = omega arith
more_count (Some p) ps = omega arith

pub one_count : (s : Entry) (old new : List Entry) → old ≡ s ∷ new → length (publics_among old) ≡ length (option_to_list (public_of s)) + length (publics_among new)
one_count s old new follows = ap (λ (ss : List Entry). length (publics_among ss)) follows ∙ more_count (public_of s) (publics_among new)

-- ---- the test

both : (a b : Bool) → a ≡ true → b ≡ true → (a && b) ≡ true
both true b h k = k
both false b h k = absurd cc

each : (a b : Bool) → (a && b) ≡ true → (a ≡ true) × (b ≡ true)
each true b h = (refl, h)
each false b h = absurd cc

pub stands_test : (q : PdbInternalSectionOffset) (p : PublicAt) → StandsUpto q p → stands_upto q p ≡ true
stands_test q p h = both (p.place.section == q.section) (nat_le p.place.offset q.offset) (eq-eqb p.place.section q.section h.section) (le-leb p.place.offset q.offset h.upto)

pub test_stands : (q : PdbInternalSectionOffset) (p : PublicAt) → stands_upto q p ≡ true → StandsUpto q p
test_stands q p h =
    let e = each (p.place.section == q.section) (nat_le p.place.offset q.offset) h in
    record { section = eqb-true p.place.section q.section e.0; upto = leb-true p.place.offset q.offset e.1 }

differ : {t : Bool} → t ≡ false → t ≡ true → ⊥
differ h k = cc

-- ---- by positions

pub none_before : (q : PdbInternalSectionOffset) (ps : List PublicAt) → public_before q ps ≡ None → (k : ℕ) (d : PublicAt) → k < length ps → StandsUpto q (get_or ps k d) → ⊥
none_before q [] e k d l h = absurd (omega (arith, l))
none_before q (p ∷ ps) e k d l h = by (stands_upto q p) refl (public_before q ps) refl e k l h (λ f j m g. none_before q ps f j d m g)
  where
    by : (t : Bool) → stands_upto q p ≡ t → (o : Option PublicAt) → public_before q ps ≡ o → nearer (cond t (Some p) None) o ≡ None → (k : ℕ) → k < length (p ∷ ps) → StandsUpto q (get_or (p ∷ ps) k d)
        → (public_before q ps ≡ None → (j : ℕ) → j < length ps → StandsUpto q (get_or ps j d) → ⊥) → ⊥
    by true is None f e k l h rest = absurd cc
    by true is (Some r) f e k l h rest = some_never (nat_lt p.place.offset r.place.offset) e
      where
        some_never : (t : Bool) → cond t (Some r) (Some p) ≡ None → ⊥
        some_never true e = cc
        some_never false e = cc
    by false is o f e zero l h rest = differ is (stands_test q p h)
    by false is o f e (suc k) l h rest = rest (f ∙ e) k (omega (arith, l)) h

-- p is the nearest: the number of its place in the list
abbrev pub Nearest : PdbInternalSectionOffset → List PublicAt → PublicAt → Type 0
Nearest q ps p = (k : ℕ) × IsNearest q ps k p

further : (q : PdbInternalSectionOffset) (x : PublicAt) (ps : List PublicAt) (k : ℕ) (p : PublicAt) → (StandsUpto q x → x.place.offset < p.place.offset) → IsNearest q ps k p → IsNearest q (x ∷ ps) (suc k) p
further q x ps k p less n = record { there = omega (arith, n.there); is = n.is; stands = n.stands; nearest = nearest; first = first }
  where
    nearest : (j : ℕ) → j < length (x ∷ ps) → StandsUpto q (get_or (x ∷ ps) j p) → (get_or (x ∷ ps) j p).place.offset ≤ p.place.offset
    nearest zero l h = let m = less h in omega (arith, m)
    nearest (suc j) l h = n.nearest j (omega (arith, l)) h

    first : (j : ℕ) → j < suc k → StandsUpto q (get_or (x ∷ ps) j p) → (get_or (x ∷ ps) j p).place.offset < p.place.offset
    first zero l h = less h
    first (suc j) l h = n.first j (omega (arith, l)) h

alone : (q : PdbInternalSectionOffset) (p : PublicAt) (ps : List PublicAt) → StandsUpto q p → ((j : ℕ) → j < length ps → StandsUpto q (get_or ps j p) → (get_or ps j p).place.offset ≤ p.place.offset) → IsNearest q (p ∷ ps) 0 p
alone q p ps h others = record { there = omega arith; is = refl; stands = h; nearest = nearest; first = λ j l. absurd (omega (arith, l)) }
  where
    nearest : (j : ℕ) → j < length (p ∷ ps) → StandsUpto q (get_or (p ∷ ps) j p) → (get_or (p ∷ ps) j p).place.offset ≤ p.place.offset
    nearest zero l h = omega arith
    nearest (suc j) l h = others j (omega (arith, l)) h

pub nearest_found : (q : PdbInternalSectionOffset) (ps : List PublicAt) (p : PublicAt) → public_before q ps ≡ Some p → Nearest q ps p
nearest_found q [] p e = absurd cc
nearest_found q (x ∷ ps) p e = by (stands_upto q x) refl (public_before q ps) refl e (λ r f. nearest_found q ps r f)
  where
    by_two : (r : PublicAt) (t : Bool) → nat_lt x.place.offset r.place.offset ≡ t → StandsUpto q x → public_before q ps ≡ Some r → cond t (Some r) (Some x) ≡ Some p → Nearest q ps r → Nearest q (x ∷ ps) p
    by_two r true less h f e rest =
        let same : r ≡ p = cc in
        (suc rest.0, rw (← same) (further q x ps rest.0 r (λ _. ltb-true x.place.offset r.place.offset less) rest.1))
    by_two r false less h f e rest =
        let same : x ≡ p = cc in (
          0,
          rw (← same) (alone q x ps h (λ j l s.
              let over = rest.1.nearest j l (rw (get_or_default ps j r x l) s) in
              let below = ltb-false x.place.offset r.place.offset less in
              rw (get_or_default ps j x r l) (omega (arith, over, below)))),
        )

    by : (t : Bool) → stands_upto q x ≡ t → (o : Option PublicAt) → public_before q ps ≡ o → nearer (cond t (Some x) None) o ≡ Some p → ((r : PublicAt) → public_before q ps ≡ Some r → Nearest q ps r) → Nearest q (x ∷ ps) p
    by true is None f e rest =
        let same : x ≡ p = cc in
        (0, rw (← same) (alone q x ps (test_stands q x is) (λ j l s. absurd (none_before q ps f j x l s))))
    by true is (Some r) f e rest = by_two r (nat_lt x.place.offset r.place.offset) refl (test_stands q x is) f e (rest r f)
    by false is o f e rest =
        let found = rest p (f ∙ e) in
        (suc found.0, further q x ps found.0 p (λ s. absurd (differ is (stands_test q x s))) found.1)

-- the other way round
pub is_nearest : (q : PdbInternalSectionOffset) (ps : List PublicAt) (k : ℕ) (p : PublicAt) → IsNearest q ps k p → public_before q ps ≡ Some p
is_nearest q ps k p n = by (public_before q ps) refl
  where
    same_public : (r : PublicAt) (j : ℕ) → IsNearest q ps j r → r ≡ p
    same_public r j m =
        let stands : StandsUpto q (get_or ps k r) = rw (get_or_default ps k r p n.there, n.is) n.stands in
        let other : StandsUpto q (get_or ps j p) = rw (get_or_default ps j p r m.there, m.is) m.stands in
        let at : (get_or ps k r).place.offset ≡ p.place.offset = ap (λ (x : PublicAt). x.place.offset) (get_or_default ps k r p n.there ∙ n.is) in
        let there : (get_or ps j p).place.offset ≡ r.place.offset = ap (λ (x : PublicAt). x.place.offset) (get_or_default ps j p r m.there ∙ m.is) in
        let upper = m.nearest k n.there stands in
        let lower = n.nearest j m.there other in
        elim (cases_lt k j) [
          | inl before ↦ (let less = m.first k before stands in absurd (omega (arith, less, lower, at, there)))
          | inr not ↦ elim (cases_lt j k) [
            | inl behind ↦ (let less = n.first j behind other in absurd (omega (arith, less, upper, at, there)))
            | inr level ↦ (let same : j ≡ k = omega (arith, not, level) in sym m.is ∙ (ap (λ (i : ℕ). get_or ps i r) same ∙ (get_or_default ps k r p n.there ∙ n.is)))
          ]
        ]

    by : (o : Option PublicAt) → public_before q ps ≡ o → o ≡ Some p
    by None f = absurd (none_before q ps f k p n.there (rw n.is n.stands))
    by (Some r) f = let found = nearest_found q ps r f in ap Some (same_public r found.0 found.1)
