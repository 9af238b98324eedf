-- Sizes as numbers of 64 bits.
use Rattle.std.proofs.Common.{◌≡◌, ℕ, Bool, true, false, Option, Some, None, Result, Ok, Err, refl, rules, T}
use Rattle.std.specs.Prelude.{ℤ, pos, negsuc, nat_lt, unsigned_abs, OkIff}
use Rattle.std.specs.Int.{w64, FitsUnsigned}
use Rattle.pdb_types.specs.TypeTexts.{small}

abbrev pub ok_of : {E : Type 0} → Result ℕ E → Option ℕ
ok_of (Ok n) = Some n
ok_of (Err e) = None

below : (b : Bool) → T b → b ≡ true
below true t = refl
below false t = absurd t

fits : (n : ℕ) → nat_lt n 0x10000000000000000 ≡ true → FitsUnsigned w64 (pos n)
fits n e = (record { le = search rules }, record { lt = rw e tt })

refused : (n : ℕ) (b : Bool) → nat_lt n 0x10000000000000000 ≡ b → (FitsUnsigned w64 (pos n) → ⊥) → None ≡ small (pos n)
refused n true e h = absurd (h (fits n e))
refused n false e h = rw e refl

pub small_is : {E : Type 0} (z : ℤ) (r : Result ℕ E) → OkIff r (FitsUnsigned w64 z) (unsigned_abs z) → ok_of r ≡ small z
small_is (pos n) (Ok x) h = let t = below _ h.0.1.lt in rw (t, h.1) refl
small_is (pos n) (Err e) h = refused n (nat_lt n 0x10000000000000000) refl h
small_is (negsuc n) (Ok x) h = absurd (search rules)
small_is (negsuc n) (Err e) h = refl
