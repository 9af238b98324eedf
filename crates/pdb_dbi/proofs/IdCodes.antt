-- Numbers of four bytes, one after another.
use Rattle.std.proofs.Common.{◌≡◌, ℕ, suc, ◌<◌, List, [], ◌∷◌, ◌++◌, length, Bool, true, false, ◌||◌, refl, arith}
use Rattle.pdb_base.specs.Fields.{number}
use Rattle.pdb_dbi.specs.Features.{has_id_code, is_id_code}

-- the first number is one of them, or one behind it is
pub first : (xs chunk rest : List ℕ) → xs ≡ chunk ++ rest → length chunk ≡ 4 → has_id_code xs ≡ (is_id_code (number chunk 0 4) || has_id_code rest)
first xs (a ∷ b ∷ c ∷ d ∷ []) rest h n = rw h refl
first xs (a ∷ b ∷ c ∷ d ∷ e ∷ more) rest h n = absurd (omega (arith, n))
first xs (a ∷ b ∷ c ∷ []) rest h n = absurd (omega (arith, n))
first xs (a ∷ b ∷ []) rest h n = absurd (omega (arith, n))
first xs (a ∷ []) rest h n = absurd (omega (arith, n))
first xs [] rest h n = absurd (omega (arith, n))

-- where no number is left
pub none : (xs : List ℕ) → length xs < 4 → has_id_code xs ≡ false
none (a ∷ b ∷ c ∷ d ∷ more) n = absurd (omega (arith, n))
none (a ∷ b ∷ c ∷ []) n = refl
none (a ∷ b ∷ []) n = refl
none (a ∷ []) n = refl
none [] n = refl

-- the first number is one of them
pub found : (xs chunk rest : List ℕ) (code : ℕ) → xs ≡ chunk ++ rest → length chunk ≡ 4 → code ≡ number chunk 0 4 → is_id_code code ≡ true → has_id_code xs ≡ true
found xs chunk rest code h n at is =
    let one : is_id_code (number chunk 0 4) ≡ true = rw (← at) is in
    rw (first xs chunk rest h n, one) refl
