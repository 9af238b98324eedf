-- Halving finds what stands for a number by cuts.
use Rattle.std.proofs.Common.{◌≡◌, ℕ, zero, suc, ◌+◌, ◌-◌, ◌*◌, ◌/◌, ◌^◌, ◌<◌, ◌≤◌, ◌⊎◌, inl, inr, Bool, true, false, cond, List, [], ◌∷◌, ◌++◌, length, get_or, take, Option, None, refl, sym, ap, subst, ◌∙◌, arith}
use Rattle.std.specs.Prelude.{nat_le}
use Rattle.std.proofs.lemmas.Bool.{cases_lt, leb-true, leb-false}
use Rattle.std.proofs.lemmas.List.{get_or_default, take_more, take_all}
use Rattle.std.proofs.Math.Nat.{pow-succ'}
use Rattle.pdb_places.specs.declared.painted.Cut.{Cut}
use Rattle.pdb_places.specs.Painting.{AreCuts, owner_at, owner_upto, last_owner}
use Rattle.pdb_places.proofs.Halves.{below_power}
use Rattle.pdb_places.proofs.Overlays.{last_push}

-- ---- the last cut at or before a number

none_upto : (x : ℕ) (o : Option ℕ) (cs : List Cut) → ((k : ℕ) (d : Cut) → k < length cs → x < (get_or cs k d).start) → owner_at x o cs ≡ o
none_upto x o [] h = refl
none_upto x o (c ∷ cs) h = by_test (nat_le c.start x) refl (none_upto x o cs (λ k d l. h (suc k) d (omega arith)))
  where
    by_test : (b : Bool) → nat_le c.start x ≡ b → owner_at x o cs ≡ o → owner_at x (cond b c.owner o) cs ≡ o
    by_test true e rest = let l = leb-true c.start x e in let m = h 0 c (omega arith) in absurd (omega arith)
    by_test false e rest = rest

-- the first n are at or before it, the others behind it
upto_those : (x : ℕ) (o : Option ℕ) (cs : List Cut) (n : ℕ) → ((k : ℕ) (d : Cut) → k < n → (get_or cs k d).start ≤ x) → ((k : ℕ) (d : Cut) → n ≤ k → k < length cs → x < (get_or cs k d).start) → owner_at x o cs ≡ last_owner o (take n cs)
upto_those x o cs zero below above = none_upto x o cs (λ k d l. above k d (omega arith) l)
upto_those x o [] (suc n) below above = refl
upto_those x o (c ∷ cs) (suc n) below above =
    by_test (nat_le c.start x) refl (upto_those x c.owner cs n (λ k d l. below (suc k) d (omega arith)) (λ k d l m. above (suc k) d (omega arith) (omega arith)))
  where
    by_test : (b : Bool) → nat_le c.start x ≡ b → owner_at x c.owner cs ≡ last_owner c.owner (take n cs) → owner_at x (cond b c.owner o) cs ≡ last_owner c.owner (take n cs)
    by_test true e rest = rest
    by_test false e rest = let l = leb-false c.start x e in let m = below 0 c (omega arith) in absurd (omega arith)

-- ---- the looks

abbrev Fewer : ℕ → ℕ → Type 0
Fewer n digits = (m : ℕ) × (digits ≡ suc m) × (n / 2 < 2 ^ m)

half_fewer : (n digits : ℕ) → 0 < n → n < 2 ^ digits → Fewer n digits
half_fewer n zero h k = absurd (omega arith)
half_fewer n (suc m) h k = (m, refl, omega (arith, pow-succ' 2 m))

-- what was found so far: nothing yet, or what holds before the next cut
abbrev pub IsFound : ℕ → List Cut → ℕ → Option ℕ → Type 0
IsFound x cs high found = ((high ≡ length cs - 1) × (found ≡ None)) ⊎ ((high + 1 < length cs) × ((d : Cut) → x < (get_or cs (high + 1) d).start) × ((d : Cut) → found ≡ owner_upto x (get_or cs high d)))

pub record AreHalved (x : ℕ) (cs : List Cut) (low high : ℕ) (found : Option ℕ) (before now : ℕ) : Type 0 where
  pub ordered : low ≤ high
  pub inside : high ≤ length cs - 1
  pub below : (d : Cut) → 0 < low → (get_or cs low d).start ≤ x
  pub so_far : IsFound x cs high found
  pub probes : (digits : ℕ) → length cs ≤ 2 ^ digits → (rest : ℕ) × (now + rest ≤ before + digits) × (high - low < 2 ^ rest)

pub none_halved : (x : ℕ) (cs : List Cut) (high now : ℕ) → high ≡ length cs - 1 → AreHalved x cs 0 high None now now
none_halved x cs high now is = record {
  ordered = omega arith;
  inside = omega arith;
  below = λ d l. absurd (omega arith);
  so_far = inl (is, refl);
  probes = λ digits h. let p = below_power digits in (digits, omega arith, omega arith);
}

module _ (x : ℕ) (cs : List Cut) (low high middle : ℕ) (found : Option ℕ) (before now : ℕ) (halved : AreHalved x cs low high found before now) (goes : low < high) (is : middle ≡ low + (high - low) / 2) where
  middle_inside : middle < high
  middle_inside = omega arith

  halves : (digits : ℕ) → length cs ≤ 2 ^ digits → (rest : ℕ) × (now + 1 + rest ≤ before + digits) × ((high - low) / 2 < 2 ^ rest)
  halves digits h =
      let p = halved.probes digits h in
      let f = half_fewer (high - low) p.0 (omega arith) p.2 in
      let a = p.1 in let b = f.1 in
      (f.0, omega arith, f.2)

  pub cuts_up : ((d : Cut) → (get_or cs (middle + 1) d).start ≤ x) → AreHalved x cs (middle + 1) high found before (now + 1)
  cuts_up h = record {
    ordered = let m = middle_inside in omega arith;
    inside = halved.inside;
    below = λ d l. h d;
    so_far = halved.so_far;
    probes = λ digits h. let p = halves digits h in let b = p.2 in (p.0, p.1, omega arith);
  }

  pub cuts_down : (next : Option ℕ) → ((d : Cut) → x < (get_or cs (middle + 1) d).start) → ((d : Cut) → next ≡ owner_upto x (get_or cs middle d)) → AreHalved x cs low middle next before (now + 1)
  cuts_down next h n = record {
    ordered = omega arith;
    inside = let i = halved.inside in omega arith;
    below = halved.below;
    so_far = inr (let i = halved.inside in omega arith, h, n);
    probes = λ digits h. let p = halves digits h in let b = p.2 in (p.0, p.1, omega arith);
  }

-- ---- nothing is left between

last_whole : (x : ℕ) (cs : List Cut) → AreCuts cs → ((d : Cut) → 0 < length cs - 1 → (get_or cs (length cs - 1) d).start ≤ x) → owner_at x None cs ≡ None
last_whole x [] cuts h = refl
last_whole x (c ∷ []) cuts h = by_test (nat_le c.start x) cuts.ended
  where
    by_test : (b : Bool) → c.owner ≡ None → cond b c.owner None ≡ None
    by_test true e = e
    by_test false e = refl
last_whole x (c ∷ b ∷ cs) cuts h =
    let n = length (c ∷ b ∷ cs) in
    upto_those x None (c ∷ b ∷ cs) n (λ k d l. let r = cuts.rises k (n - 1) d (omega arith) (omega arith) in let m = h d (omega arith) in omega arith) (λ k d l m. absurd (omega arith))
    ∙ (ap (last_owner None) (take_all n (c ∷ b ∷ cs) (omega arith)) ∙ cuts.ended)

between_cuts : (x : ℕ) (cs : List Cut) (m : ℕ) (c : Cut) → AreCuts cs → m + 1 < length cs → ((d : Cut) → 0 < m → (get_or cs m d).start ≤ x) → ((d : Cut) → x < (get_or cs (m + 1) d).start) → c ≡ get_or cs m c → owner_at x None cs ≡ owner_upto x c
between_cuts x cs m c cuts l low high is = by_test (nat_le c.start x) refl
  where
    above : (k : ℕ) (d : Cut) → m + 1 ≤ k → k < length cs → x < (get_or cs k d).start
    above k d n i = let r = cuts.rises (m + 1) k d n i in let h = high d in omega arith

    by_test : (b : Bool) → nat_le c.start x ≡ b → owner_at x None cs ≡ cond b c.owner None
    by_test true e =
        let at = leb-true c.start x e in
        upto_those x None cs (m + 1) (λ k d n.
        let r = cuts.rises k m d (omega arith) (omega arith) in
        let s : get_or cs m d ≡ c = get_or_default cs m d c (omega arith) ∙ sym is in
        let t : (get_or cs m d).start ≡ c.start = ap (λ (c : Cut). c.start) s in omega arith) above
        ∙ (ap (last_owner None) (take_more cs m c (omega arith) ∙ ap (λ (d : Cut). take m cs ++ d ∷ []) (sym is)) ∙ last_push None (take m cs) c)
    by_test false e =
        let at = leb-false c.start x e in
        let t : (get_or cs m c).start ≡ c.start = ap (λ (c : Cut). c.start) (sym is) in
        let none : m ≡ 0 = first_only (cases_lt 0 m) in
        none_upto x None cs (λ k d i.
        let r = cuts.rises m k d (omega arith) i in
        let s : (get_or cs m d).start ≡ (get_or cs m c).start = ap (λ (c : Cut). c.start) (get_or_default cs m d c (omega arith)) in omega arith)
      where
        first_only : (0 < m) ⊎ (m ≤ 0) → m ≡ 0
        first_only (inl h) = let a = low c h in let at = leb-false c.start x e in let t : (get_or cs m c).start ≡ c.start = ap (λ (c : Cut). c.start) (sym is) in absurd (omega arith)
        first_only (inr h) = omega arith

pub cuts_halved : (x : ℕ) (cs : List Cut) (low high : ℕ) (found : Option ℕ) (before now : ℕ) → AreCuts cs → AreHalved x cs low high found before now → high ≤ low → found ≡ owner_at x None cs
cuts_halved x cs low high found before now cuts h e = by_found h.so_far
  where
    same : low ≡ high
    same = let o = h.ordered in omega arith

    below : (d : Cut) → 0 < high → (get_or cs high d).start ≤ x
    below d l = subst (λ (n : ℕ). (get_or cs n d).start ≤ x) same (h.below d (let s = same in omega arith))

    a_cut : Cut
    a_cut = record { start = 0; owner = None }

    by_found : IsFound x cs high found → found ≡ owner_at x None cs
    by_found (inl (is, none)) = none ∙ sym (last_whole x cs cuts (λ d l. subst (λ (n : ℕ). (get_or cs n d).start ≤ x) is (below d (let i = is in omega arith))))
    by_found (inr (there, high_behind, is)) =
        let c = get_or cs high a_cut in
        is a_cut ∙ sym (between_cuts x cs high c cuts there below high_behind (sym (get_or_default cs high c a_cut (omega arith))))

-- twice as many, in digits

pub twice_below : (n digits : ℕ) → n < 2 ^ digits → 2 * n ≤ 2 ^ (digits + 1)
twice_below n digits h = let e : digits + 1 ≡ suc digits = omega arith in rw e (omega (arith, pow-succ' 2 digits))

pub twice_few : (n : ℕ) → 2 * n ≤ 2 ^ n
twice_few zero = omega arith
twice_few (suc n) = let h = below_power n in omega (arith, pow-succ' 2 n)
