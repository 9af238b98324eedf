-- Blanks of one more depth.
use Rattle.std.proofs.Common.{◌≡◌, ℕ, zero, suc, ◌+◌, List, ◌++◌, codes, refl, ap, subst, arith}
use Rattle.tool_symbols.specs.Depth.{blanks_of}

behind : (d : ℕ) → codes "  " ++ blanks_of d ≡ blanks_of d ++ codes "  "
behind zero = refl
behind (suc d) = ap (λ (xs : List ℕ). codes "  " ++ xs) (behind d)

pub blanks_more : (d : ℕ) → blanks_of (d + 1) ≡ blanks_of d ++ codes "  "
blanks_more d = let e : suc d ≡ d + 1 = omega arith in subst (λ (n : ℕ). blanks_of n ≡ blanks_of d ++ codes "  ") e (behind d)
