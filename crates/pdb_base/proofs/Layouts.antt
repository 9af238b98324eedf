-- What is read of parts one behind another is what stands there.
use Rattle.std.proofs.Common.{◌≡◌, ℕ, zero, suc, ◌+◌, Bool, true, false, List, [], ◌∷◌, length, Option, Some, None, Ok, refl, sym, ap, arith}
use Rattle.pdb_base.specs.Refusal.{◌>>=◌}
use Rattle.std.specs.Int.{w32}
use Rattle.pdb_base.proofs.Places.{bind_ok, OnlyEof, bind_eof, ok_eof, number_is, is_number, number_eof, slice_is, is_slice, slice_eof, cstring_is, is_cstring, cstring_eof}
use Rattle.pdb_base.proofs.Variants.{signed_is, is_signed, signed_eof, variant_is, is_variant}
use Rattle.pdb_base.specs.Layouts.{Part, ◌▷◌, behind, saying, together, together_at, grouped, grouped_at, by_kind, given, number, number_as, signed, variant, cstring, slice, rest, times, list_at, nothing}

-- a part's reading is what stands there
pub record Tells {A : Type 0} (p : Part A) : Type 0 where
  pub is : (kind : ℕ) (b : List ℕ) (i : ℕ) (x : A) → p.at kind b i ≡ Ok x → p.Stands kind b i x
  pub reads : (kind : ℕ) (b : List ℕ) (i : ℕ) (x : A) → p.Stands kind b i x → p.at kind b i ≡ Ok x

-- a part is refused only at the end
pub record Ends {A : Type 0} (p : Part A) : Type 0 where
  pub eof : (kind : ℕ) (b : List ℕ) (i : ℕ) → OnlyEof (p.at kind b i)

-- ---- parts of parts

pub behind_tells : {A B : Type 0} (p : Part A) (q : A → Part B) → Tells p → ((x : A) → Tells (q x)) → Tells (behind p q)
behind_tells p q h k = record {
  is = λ kind b i s e.
      let (x, e1, r1) = bind_ok _ _ _ e in
      let (y, e2, r2) = bind_ok _ _ _ r1 in
      let same : (x, y) ≡ s = cc in
      rw (← same) (h.is kind b i x e1, (k x).is kind b (i + p.width kind b i x) y e2);
  reads = λ kind b i s at. rw (h.reads kind b i s.0 at.0, (k s.0).reads kind b (i + p.width kind b i s.0) s.1 at.1) refl;
}

pub then_tells : {A B : Type 0} (p : Part A) (q : Part B) → Tells p → Tells q → Tells (p ▷ q)
then_tells p q h k = behind_tells p (λ _. q) h (λ _. k)

together_is : {A : Type 0} (p : Part A) → Tells p → (b : List ℕ) (i : ℕ) (x : A) → together_at p b i ≡ Ok x → p.Stands 0 b i x
unfolding together_at
together_is p h b i x e = h.is 0 b i x e

is_together : {A : Type 0} (p : Part A) → Tells p → (b : List ℕ) (i : ℕ) (x : A) → p.Stands 0 b i x → together_at p b i ≡ Ok x
unfolding together_at
is_together p h b i x s = h.reads 0 b i x s

pub together_tells : {A : Type 0} (p : Part A) → Tells p → Tells (together p)
together_tells p h = record { is = λ kind b i x e. together_is p h b i x e; reads = λ kind b i x s. is_together p h b i x s }

together_eof : {A : Type 0} (p : Part A) → Ends p → (b : List ℕ) (i : ℕ) → OnlyEof (together_at p b i)
unfolding together_at
together_eof p h b i = h.eof 0 b i

pub together_ends : {A : Type 0} (p : Part A) → Ends p → Ends (together p)
together_ends p h = record { eof = λ kind b i. together_eof p h b i }

grouped_is : {A : Type 0} (p : Part A) → Tells p → (kind : ℕ) (b : List ℕ) (i : ℕ) (x : A) → grouped_at p kind b i ≡ Ok x → p.Stands kind b i x
unfolding grouped_at
grouped_is p h kind b i x e = h.is kind b i x e

is_grouped : {A : Type 0} (p : Part A) → Tells p → (kind : ℕ) (b : List ℕ) (i : ℕ) (x : A) → p.Stands kind b i x → grouped_at p kind b i ≡ Ok x
unfolding grouped_at
is_grouped p h kind b i x s = h.reads kind b i x s

pub grouped_tells : {A : Type 0} (p : Part A) → Tells p → Tells (grouped p)
grouped_tells p h = record { is = λ kind b i x e. grouped_is p h kind b i x e; reads = λ kind b i x s. is_grouped p h kind b i x s }

grouped_eof : {A : Type 0} (p : Part A) → Ends p → (kind : ℕ) (b : List ℕ) (i : ℕ) → OnlyEof (grouped_at p kind b i)
unfolding grouped_at
grouped_eof p h kind b i = h.eof kind b i

pub grouped_ends : {A : Type 0} (p : Part A) → Ends p → Ends (grouped p)
grouped_ends p h = record { eof = λ kind b i. grouped_eof p h kind b i }

pub saying_tells : {A B : Type 0} (f : A → B) (p : Part A) → Tells p → Tells (saying f p)
saying_tells f p h = record {
  is = λ kind b i y e. let (x, e1, r1) = bind_ok _ _ _ e in (x, h.is kind b i x e1, cc);
  reads = λ kind b i y s. rw (h.reads kind b i s.0 s.1) (ap Ok (sym s.2));
}

pub saying_ends : {A B : Type 0} (f : A → B) (p : Part A) → Ends p → Ends (saying f p)
saying_ends f p h = record { eof = λ kind b i. bind_eof _ _ (h.eof kind b i) (λ x. ok_eof _) }

pub by_kind_tells : {A : Type 0} (f : ℕ → Part A) → ((kind : ℕ) → Tells (f kind)) → Tells (by_kind f)
by_kind_tells f h = record { is = λ kind b i x e. (h kind).is kind b i x e; reads = λ kind b i x s. (h kind).reads kind b i x s }

given_is : {A : Type 0} (t : Bool) (p : Part A) → Tells p → (kind : ℕ) (b : List ℕ) (i : ℕ) (o : Option A) → (given t p).at kind b i ≡ Ok o → (given t p).Stands kind b i o
given_is true p h kind b i None e = let (x, e1, r1) = bind_ok (p.at kind b i) (λ x. Ok (Some x)) None e in absurd cc
given_is true p h kind b i (Some y) e = let (x, e1, r1) = bind_ok (p.at kind b i) (λ x. Ok (Some x)) (Some y) e in let same : x ≡ y = cc in (refl, rw (← same) (h.is kind b i x e1))
given_is false p h kind b i None e = refl
given_is false p h kind b i (Some y) e = absurd cc

is_given : {A : Type 0} (t : Bool) (p : Part A) → Tells p → (kind : ℕ) (b : List ℕ) (i : ℕ) (o : Option A) → (given t p).Stands kind b i o → (given t p).at kind b i ≡ Ok o
is_given t p h kind b i None s = rw s refl
is_given t p h kind b i (Some y) s = rw (s.0, h.reads kind b i y s.1) refl

pub given_tells : {A : Type 0} (t : Bool) (p : Part A) → Tells p → Tells (given t p)
given_tells t p h = record { is = given_is t p h; reads = is_given t p h }

pub behind_ends : {A B : Type 0} (p : Part A) (q : A → Part B) → Ends p → ((x : A) → Ends (q x)) → Ends (behind p q)
behind_ends p q h k = record { eof = λ kind b i. bind_eof _ _ (h.eof kind b i) (λ x. bind_eof _ _ ((k x).eof kind b (i + p.width kind b i x)) (λ y. ok_eof _)) }

pub then_ends : {A B : Type 0} (p : Part A) (q : Part B) → Ends p → Ends q → Ends (p ▷ q)
then_ends p q h k = behind_ends p (λ _. q) h (λ _. k)

pub by_kind_ends : {A : Type 0} (f : ℕ → Part A) → ((kind : ℕ) → Ends (f kind)) → Ends (by_kind f)
by_kind_ends f h = record { eof = λ kind b i. (h kind).eof kind b i }

given_eof : {A : Type 0} (t : Bool) (p : Part A) → Ends p → (kind : ℕ) (b : List ℕ) (i : ℕ) → OnlyEof ((given t p).at kind b i)
given_eof true p h kind b i = bind_eof _ _ (h.eof kind b i) (λ x. ok_eof _)
given_eof false p h kind b i = ok_eof _

pub given_ends : {A : Type 0} (t : Bool) (p : Part A) → Ends p → Ends (given t p)
given_ends t p h = record { eof = given_eof t p h }

-- ---- a part so many times

times_is : {A : Type 0} (p : Part A) → Tells p → (n kind : ℕ) (b : List ℕ) (i : ℕ) (xs : List A) → (times n p).at kind b i ≡ Ok xs → (times n p).Stands kind b i xs
times_is p h zero kind b i [] e = (refl, tt)
times_is p h zero kind b i (x ∷ xs) e = absurd cc
times_is p h (suc n) kind b i xs e =
    let (x, e1, r1) = bind_ok (p.at kind b i) (λ x. list_at p n kind b (i + p.width kind b i x) >>= (λ xs. Ok (x ∷ xs))) xs e in
    let (ys, e2, r2) = bind_ok (list_at p n kind b (i + p.width kind b i x)) (λ xs. Ok (x ∷ xs)) xs r1 in
    let all = times_is p h n kind b (i + p.width kind b i x) ys e2 in
    let same : x ∷ ys ≡ xs = cc in
    rw (← same) (ap suc all.0, (h.is kind b i x e1, all.1))

is_times : {A : Type 0} (p : Part A) → Tells p → (n kind : ℕ) (b : List ℕ) (i : ℕ) (xs : List A) → (times n p).Stands kind b i xs → (times n p).at kind b i ≡ Ok xs
is_times p h zero kind b i [] s = refl
is_times p h zero kind b i (x ∷ xs) s = let e = s.0 in absurd cc
is_times p h (suc n) kind b i [] s = let e = s.0 in absurd cc
is_times p h (suc n) kind b i (x ∷ xs) s =
    let e = s.0 in
    let fewer : length xs ≡ n = omega arith in
    rw (h.reads kind b i x s.1.0, is_times p h n kind b (i + p.width kind b i x) xs (fewer, s.1.1)) refl

pub times_tells : {A : Type 0} (n : ℕ) (p : Part A) → Tells p → Tells (times n p)
times_tells n p h = record { is = times_is p h n; reads = is_times p h n }

times_eof : {A : Type 0} (p : Part A) → Ends p → (n kind : ℕ) (b : List ℕ) (i : ℕ) → OnlyEof ((times n p).at kind b i)
times_eof p h zero kind b i = ok_eof _
times_eof p h (suc n) kind b i = bind_eof _ _ (h.eof kind b i) (λ x. bind_eof _ _ (times_eof p h n kind b (i + p.width kind b i x)) (λ xs. ok_eof _))

pub times_ends : {A : Type 0} (n : ℕ) (p : Part A) → Ends p → Ends (times n p)
times_ends n p h = record { eof = times_eof p h n }

-- ---- plain parts

pub nothing_tells : Tells nothing
nothing_tells = record { is = λ kind b i x e. tt; reads = λ kind b i x h. refl }

pub nothing_ends : Ends nothing
nothing_ends = record { eof = λ kind b i. ok_eof _ }

pub number_tells : (w : ℕ) → Tells (number w)
number_tells w = record { is = λ kind b i x e. number_is b i w x e; reads = λ kind b i x h. is_number b i w x h }

pub number_as_tells : {A : Type 0} (w : ℕ) (f : ℕ → A) → Tells (number_as w f)
number_as_tells w f = record {
  is = λ kind b i x e. let (n, e1, r1) = bind_ok _ _ _ e in (n, number_is b i w n e1, cc);
  reads = λ kind b i x h. rw (is_number b i w h.0 h.1) (ap Ok (sym h.2));
}

pub signed_tells : Tells signed
signed_tells = record { is = λ kind b i x e. signed_is b i w32 x e; reads = λ kind b i x h. is_signed b i w32 x h }

pub variant_tells : Tells variant
variant_tells = record { is = λ kind b i x e. variant_is b i x e; reads = λ kind b i x h. is_variant b i x h }

pub cstring_tells : Tells cstring
cstring_tells = record { is = λ kind b i x e. cstring_is b i x e; reads = λ kind b i x h. is_cstring b i x h }

pub slice_tells : (n : ℕ) → Tells (slice n)
slice_tells n = record { is = λ kind b i x e. slice_is b i n x e; reads = λ kind b i x h. is_slice b i n x h }

pub rest_tells : Tells rest
rest_tells = record { is = λ kind b i x e. cc; reads = λ kind b i x h. ap Ok (sym h) }

pub number_ends : (w : ℕ) → Ends (number w)
number_ends w = record { eof = λ kind b i. number_eof b i w }

pub number_as_ends : {A : Type 0} (w : ℕ) (f : ℕ → A) → Ends (number_as w f)
number_as_ends w f = record { eof = λ kind b i. bind_eof _ _ (number_eof b i w) (λ n. ok_eof _) }

pub signed_ends : Ends signed
signed_ends = record { eof = λ kind b i. signed_eof b i w32 }

pub cstring_ends : Ends cstring
cstring_ends = record { eof = λ kind b i. cstring_eof b i }

pub slice_ends : (n : ℕ) → Ends (slice n)
slice_ends n = record { eof = λ kind b i. slice_eof b i n }

pub rest_ends : Ends rest
rest_ends = record { eof = λ kind b i. ok_eof _ }
