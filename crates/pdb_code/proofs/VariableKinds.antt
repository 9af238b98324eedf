-- Kinds of variables are none of code.
use Rattle.std.proofs.Common.{◌≡◌, ℕ, ◌<◌, ◌≤◌, Bool, true, false, List, [], ◌∷◌, refl, arith}
use Rattle.std.specs.Prelude.{nat_lt, nat_le, ◌||◌, ◌&&◌, ◌==◌}
use Rattle.pdb_symbols.specs.Kinds.{is_in}
use Rattle.pdb_code.specs.CodeRecords.{is_code_kind}

-- kinds before those of variables or behind them
abbrev all_far : List ℕ → Bool
all_far [] = true
all_far (n ∷ ns) = (nat_lt n 0x1133 || nat_le 0x1146 n) && all_far ns

both : (a b : Bool) → a && b ≡ true → (a ≡ true) × (b ≡ true)
both true true e = (refl, refl)
both true false e = absurd cc
both false b e = absurd cc

neither : (a b : Bool) → a ≡ false → b ≡ false → a || b ≡ false
neither false false d e = refl
neither false true d e = absurd cc
neither true b d e = absurd cc

not_same : (k n : ℕ) → 0x1133 ≤ k → k < 0x1146 → (nat_lt n 0x1133 || nat_le 0x1146 n) ≡ true → (k == n) ≡ false
not_same k n low high e = grind (arith)

none_in : (ks : List ℕ) (k : ℕ) → 0x1133 ≤ k → k < 0x1146 → all_far ks ≡ true → is_in ks k ≡ false
none_in [] k low high e = refl
none_in (n ∷ ns) k low high e =
    let far = both _ _ e in
    neither _ _ (not_same k n low high far.0) (none_in ns k low high far.1)

-- no kind of a variable or of its ranges is that of code
pub variables_no_code : (k : ℕ) → 0x1133 ≤ k → k < 0x1146 → is_code_kind k ≡ false
variables_no_code k low high = none_in (0x0206 ∷ 0x100a ∷ 0x100b ∷ 0x101a ∷ 0x101b ∷ 0x1102 ∷ 0x110f ∷ 0x1110 ∷ 0x112a ∷ 0x112b ∷ 0x112c ∷ 0x1132 ∷ 0x1146 ∷ 0x1147 ∷ 0x114d ∷ 0x1155 ∷ 0x1156 ∷ 0x115d ∷ []) k low high refl
