-- A number with a prefix: what is read is what stands there, and what refuses it.
use Rattle.std.proofs.Common.{◌≡◌, ℕ, ◌+◌, Bool, true, false, cond, List, Result, Ok, Err, refl, sym, ap, ◌⊎◌, inl, inr, arith}
use Rattle.std.specs.Prelude.{◌==◌, nat_lt, ◌||◌, ◌<◌}
use Rattle.std.proofs.lemmas.Bool.Decides.{nat_tests}
use Rattle.pdb_base.specs.declared.error.Error.{Error}
use Rattle.pdb_base.specs.declared.error.Error.TheVariants.{UnexpectedEof, UnexpectedNumericPrefix}
use Rattle.pdb_base.specs.declared.variant.Variant.{Variant}
use Rattle.pdb_base.specs.declared.variant.Variant.TheVariants.{U8, U16, U32, U64, I8, I16, I32, I64}
use Rattle.std.specs.Prelude.{ℤ}
use Rattle.pdb_base.specs.Refusal.{◌>>=◌}
use Rattle.pdb_base.specs.Fields.{number_at, signed_at, variant_at, variant_behind, is_listed}
use Rattle.pdb_base.specs.Places.{IsNumber, IsSigned, IsVariant}
use Rattle.pdb_base.proofs.Places.{bind_ok, OnlyEof, bind_eof, ok_eof, number_is, is_number, number_eof}
use Rattle.std.specs.Int.{Width, w16, w32, w64, byte_len}

-- what is refused has this property
abbrev pub Refuses : {A : Type 0} → (Error → Type 0) → Result A Error → Type 0
Refuses P r = (e : Error) → r ≡ Err e → P e

pub bind_refuses : {A B : Type 0} (P : Error → Type 0) (r : Result A Error) (f : A → Result B Error) → Refuses P r → ((x : A) → r ≡ Ok x → Refuses P (f x)) → Refuses P (r >>= f)
bind_refuses P (Ok x) f h k = k x refl
bind_refuses P (Err d) f h k = λ e q. h e cc

cond_refuses : {A : Type 0} (P : Error → Type 0) (t : Bool) (x y : Result A Error) → Refuses P x → (t ≡ false → Refuses P y) → Refuses P (cond t x y)
cond_refuses P true x y h k = h
cond_refuses P false x y h k = k refl

pub eof_refuses : {A : Type 0} (P : Error → Type 0) (r : Result A Error) → P UnexpectedEof → OnlyEof r → Refuses P r
eof_refuses P r p h e q = rw (h e q) p

pub signed_eof : (b : List ℕ) (p : ℕ) (w : Width) → OnlyEof (signed_at b p w)
unfolding signed_at
signed_eof b p w = bind_eof _ _ (number_eof b p (byte_len w)) (λ _. ok_eof _)

-- the end, or an unlisted prefix
abbrev pub PrefixRefusal : ℕ → Error → Type 0
PrefixRefusal n e = (e ≡ UnexpectedEof) ⊎ ((is_listed n ≡ false) × (e ≡ UnexpectedNumericPrefix n))

number_case : (P : Error → Type 0) (b : List ℕ) (p w : ℕ) (f : ℕ → Variant) → P UnexpectedEof → Refuses P (number_at b p w >>= (λ n. Ok (f n)))
number_case P b p w f h = eof_refuses P _ h (bind_eof _ _ (number_eof b p w) (λ _. ok_eof _))

signed_case : (P : Error → Type 0) (b : List ℕ) (p : ℕ) (w : Width) (f : ℤ → Variant) → P UnexpectedEof → Refuses P (signed_at b p w >>= (λ n. Ok (f n)))
signed_case P b p w f h = eof_refuses P _ h (bind_eof _ _ (signed_eof b p w) (λ _. ok_eof _))

behind : (n : ℕ) (b : List ℕ) (p : ℕ) → Refuses (PrefixRefusal n) (variant_behind n b p)
behind n b p =
    let P : Error → Type 0 = PrefixRefusal n in
    cond_refuses P (nat_lt n 0x8000) _ _ (λ e q. absurd cc) (λ h0. cond_refuses P (n == 0x8000) _ _ (number_case P b p 1 _ (inl refl)) (λ h1. cond_refuses P (n == 0x8001) _ _ (signed_case P b p w16 _ (inl refl)) (λ h2. cond_refuses P (n == 0x8002) _ _ (number_case P b p 2 _ (inl refl)) (λ h3. cond_refuses P (n == 0x8003) _ _ (signed_case P b p w32 _ (inl refl)) (λ h4. cond_refuses P (n == 0x8004) _ _ (number_case P b p 4 _ (inl refl)) (λ h5. cond_refuses P (n == 0x8009) _ _ (signed_case P b p w64 _ (inl refl)) (λ h6. cond_refuses P (n == 0x800a) _ _ (number_case P b p 8 _ (inl refl)) (λ h7. λ e q. inr (rw (h0, h1, h2, h3, h4, h5, h6, h7) refl, cc)))))))))

pub variant_refuses : (b : List ℕ) (p : ℕ) (e : Error) → variant_at b p ≡ Err e → (e ≡ UnexpectedEof) ⊎ ((n : ℕ) × IsNumber b p 2 n × (is_listed n ≡ false) × (e ≡ UnexpectedNumericPrefix n))
unfolding variant_at
variant_refuses b p = bind_refuses (λ e. (e ≡ UnexpectedEof) ⊎ ((n : ℕ) × IsNumber b p 2 n × (is_listed n ≡ false) × (e ≡ UnexpectedNumericPrefix n))) _ _
    (eof_refuses _ _ (inl refl) (number_eof b p 2))
    (λ n at e q. elim (behind n b (p + 2) e q) [ inl h ↦ inl h | inr h ↦ inr (n, number_is b p 2 n at, h.0, h.1) ])

or_false : (s t : Bool) → (s || t) ≡ false → (s ≡ false) × (t ≡ false)
or_false true t h = absurd cc
or_false false t h = (refl, h)

not_listed : (n : ℕ) (b : List ℕ) (p : ℕ) → is_listed n ≡ false → variant_behind n b p ≡ Err (UnexpectedNumericPrefix n)
not_listed n b p h =
    let (h7, g7) = or_false (nat_lt n 0x8000 || n == 0x8000 || n == 0x8001 || n == 0x8002 || n == 0x8003 || n == 0x8004 || n == 0x8009) (n == 0x800a) h in
    let (h6, g6) = or_false (nat_lt n 0x8000 || n == 0x8000 || n == 0x8001 || n == 0x8002 || n == 0x8003 || n == 0x8004) (n == 0x8009) h7 in
    let (h5, g5) = or_false (nat_lt n 0x8000 || n == 0x8000 || n == 0x8001 || n == 0x8002 || n == 0x8003) (n == 0x8004) h6 in
    let (h4, g4) = or_false (nat_lt n 0x8000 || n == 0x8000 || n == 0x8001 || n == 0x8002) (n == 0x8003) h5 in
    let (h3, g3) = or_false (nat_lt n 0x8000 || n == 0x8000 || n == 0x8001) (n == 0x8002) h4 in
    let (h2, g2) = or_false (nat_lt n 0x8000 || n == 0x8000) (n == 0x8001) h3 in
    let (g0, g1) = or_false (nat_lt n 0x8000) (n == 0x8000) h2 in
    rw (g0, g1, g2, g3, g4, g5, g6, g7) refl

pub unlisted_refused : (b : List ℕ) (p n : ℕ) → IsNumber b p 2 n → is_listed n ≡ false → variant_at b p ≡ Err (UnexpectedNumericPrefix n)
unfolding variant_at
unlisted_refused b p n at h = rw (is_number b p 2 n at) (not_listed n b (p + 2) h)

-- ---- what is read is what stands there

pub signed_is : (b : List ℕ) (p : ℕ) (w : Width) (n : ℤ) → signed_at b p w ≡ Ok n → IsSigned b p w n
unfolding signed_at
signed_is b p w n e = let (bits, at, r) = bind_ok _ _ _ e in record { bits = bits; at = number_is b p (byte_len w) bits at; value = cc }

pub is_signed : (b : List ℕ) (p : ℕ) (w : Width) (n : ℤ) → IsSigned b p w n → signed_at b p w ≡ Ok n
unfolding signed_at
is_signed b p w n h = rw (is_number b p (byte_len w) h.bits h.at) (ap Ok (sym h.value))

-- one of two, by a test
either : {A : Type 0} (t : Bool) (x y : Result A Error) (v : A) → cond t x y ≡ Ok v → ((t ≡ true) × (x ≡ Ok v)) ⊎ ((t ≡ false) × (y ≡ Ok v))
either true x y v e = inl (refl, e)
either false x y v e = inr (refl, e)

is_prefix : (n k : ℕ) → (n == k) ≡ true → n ≡ k
is_prefix n k h = grind (arith, nat_tests)

number_row : (b : List ℕ) (p w : ℕ) (f : ℕ → Variant) (v : Variant) → (number_at b p w >>= (λ n. Ok (f n))) ≡ Ok v → (n : ℕ) × IsNumber b p w n × (f n ≡ v)
number_row b p w f v e = let (n, at, r) = bind_ok _ _ _ e in (n, number_is b p w n at, cc)

signed_row : (b : List ℕ) (p : ℕ) (w : Width) (f : ℤ → Variant) (v : Variant) → (signed_at b p w >>= (λ n. Ok (f n))) ≡ Ok v → (n : ℤ) × IsSigned b p w n × (f n ≡ v)
signed_row b p w f v e = let (n, at, r) = bind_ok _ _ _ e in (n, signed_is b p w n at, cc)

row_is : (prefix : ℕ) (b : List ℕ) (p : ℕ) (v : Variant) → IsNumber b p 2 prefix → variant_behind prefix b (p + 2) ≡ Ok v → IsVariant b p v
row_is prefix b p v at e = elim (either (nat_lt prefix 0x8000) _ _ v e) [
  | inl h ↦ (let same : U16 prefix ≡ v = (let q = h.1 in cc) in let low = h.0 in rw (← same) (inl (at, grind (arith, nat_tests))))
  | inr h ↦ (elim (either (prefix == 0x8000) _ _ v h.1) [
    | inl h ↦ (let (n, there, same) = number_row b (p + 2) 1 _ v h.1 in let at = rw (is_prefix prefix _ h.0) at at in rw (← same) (at, there))
    | inr h ↦ (elim (either (prefix == 0x8001) _ _ v h.1) [
      | inl h ↦ (let (n, there, same) = signed_row b (p + 2) w16 _ v h.1 in let at = rw (is_prefix prefix _ h.0) at at in rw (← same) (at, there))
      | inr h ↦ (elim (either (prefix == 0x8002) _ _ v h.1) [
        | inl h ↦ (let (n, there, same) = number_row b (p + 2) 2 _ v h.1 in let at = rw (is_prefix prefix _ h.0) at at in rw (← same) (inr (at, there)))
        | inr h ↦ (elim (either (prefix == 0x8003) _ _ v h.1) [
          | inl h ↦ (let (n, there, same) = signed_row b (p + 2) w32 _ v h.1 in let at = rw (is_prefix prefix _ h.0) at at in rw (← same) (at, there))
          | inr h ↦ (elim (either (prefix == 0x8004) _ _ v h.1) [
            | inl h ↦ (let (n, there, same) = number_row b (p + 2) 4 _ v h.1 in let at = rw (is_prefix prefix _ h.0) at at in rw (← same) (at, there))
            | inr h ↦ (elim (either (prefix == 0x8009) _ _ v h.1) [
              | inl h ↦ (let (n, there, same) = signed_row b (p + 2) w64 _ v h.1 in let at = rw (is_prefix prefix _ h.0) at at in rw (← same) (at, there))
              | inr h ↦ (elim (either (prefix == 0x800a) _ _ v h.1) [
                | inl h ↦ (let (n, there, same) = number_row b (p + 2) 8 _ v h.1 in let at = rw (is_prefix prefix _ h.0) at at in rw (← same) (at, there))
                | inr h ↦ (let q = h.1 in absurd cc)
              ])
            ])
          ])
        ])
      ])
    ])
  ])
]

pub variant_is : (b : List ℕ) (p : ℕ) (v : Variant) → variant_at b p ≡ Ok v → IsVariant b p v
unfolding variant_at
variant_is b p v e = let (prefix, at, r) = bind_ok _ _ _ e in row_is prefix b p v (number_is b p 2 prefix at) r

below : (n : ℕ) → n < 0x8000 → nat_lt n 0x8000 ≡ true
below n h = grind (arith, nat_tests)

pub is_variant : (b : List ℕ) (p : ℕ) (v : Variant) → IsVariant b p v → variant_at b p ≡ Ok v
unfolding variant_at
is_variant b p (U8 n) h = rw (is_number b p 2 0x8000 h.0, is_number b (p + 2) 1 n h.1) refl
is_variant b p (I16 n) h = rw (is_number b p 2 0x8001 h.0, is_signed b (p + 2) w16 n h.1) refl
is_variant b p (U16 n) (inl h) = rw (is_number b p 2 n h.0, below n h.1) refl
is_variant b p (U16 n) (inr h) = rw (is_number b p 2 0x8002 h.0, is_number b (p + 2) 2 n h.1) refl
is_variant b p (I32 n) h = rw (is_number b p 2 0x8003 h.0, is_signed b (p + 2) w32 n h.1) refl
is_variant b p (U32 n) h = rw (is_number b p 2 0x8004 h.0, is_number b (p + 2) 4 n h.1) refl
is_variant b p (I64 n) h = rw (is_number b p 2 0x8009 h.0, is_signed b (p + 2) w64 n h.1) refl
is_variant b p (U64 n) h = rw (is_number b p 2 0x800a h.0, is_number b (p + 2) 8 n h.1) refl
is_variant b p (I8 n) h = absurd h
