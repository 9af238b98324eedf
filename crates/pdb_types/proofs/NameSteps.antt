-- The parts of a type, a step at a time.
use Rattle.std.proofs.Common.{◌≡◌, ℕ, zero, suc, ◌-◌, ◌≤◌, ◌<◌, List, ◌++◌, Bool, true, false, cond, Option, refl, arith}
use Rattle.std.specs.Prelude.{◌&&◌, not, codes}
use Rattle.std.proofs.lemmas.Bool.{le-ltb, lt-ltb, ne_eqb}
use Rattle.std.proofs.lemmas.List.{append-nil}
use Rattle.pdb_items.specs.Items.{ItemEntry}
use Rattle.pdb_types.specs.declared.pointer.Qualifiers.{Qualifiers}
use Rattle.pdb_types.specs.TypeFlags.{is_unqualified}
use Rattle.pdb_types.specs.TypeSays.{TypeSays}
use Rattle.pdb_types.specs.FullTypes.{says_of}
use Rattle.pdb_types.specs.TypeTexts.{Parts, arguments_by, arguments_text, modified, parts, parts_of, plain, plain_before, plain_behind, rare_behind, simple_parts, words_before, words_behind}

pub parts_simple : (types : List ItemEntry) (first : List ℕ → Option ℕ) (d i : ℕ) → i < 0x1000 → parts types first d i ≡ simple_parts i
unfolding parts
parts_simple types first zero i h = rw (lt-ltb i 0x1000 h) refl
parts_simple types first (suc d) i h = rw (lt-ltb i 0x1000 h) refl

pub parts_end : (types : List ItemEntry) (first : List ℕ → Option ℕ) (d i : ℕ) → 0x1000 ≤ i → d ≡ 0 → parts types first d i ≡ plain (codes "<...>")
unfolding parts
parts_end types first zero i h e = rw (le-ltb i 0x1000 h) refl
parts_end types first (suc d) i h e = absurd (omega arith)

pub parts_step : (types : List ItemEntry) (first : List ℕ → Option ℕ) (d i : ℕ) (says : Option TypeSays) → 0x1000 ≤ i → 0 < d → says ≡ says_of types i → parts types first d i ≡ parts_of types first (d - 1) (parts types first (d - 1)) says
unfolding parts
parts_step types first zero i says h lt e = absurd (omega arith)
parts_step types first (suc d) i says h lt e = let same : suc d - 1 ≡ d = omega arith in rw (le-ltb i 0x1000 h, same, e) refl

-- ---- qualifiers

no_words : (a b c d p : Bool) (front : List ℕ) → (not a && not b && not c && not d) ≡ true
    → cond p (front ++ words_behind (record { is_const = a; is_volatile = b; is_unaligned = c; is_restrict = d })) (words_before (record { is_const = a; is_volatile = b; is_unaligned = c; is_restrict = d }) ++ front) ≡ front
unfolding plain_before plain_behind rare_behind
no_words true b c d p front e = absurd cc
no_words false true c d p front e = absurd cc
no_words false false true d p front e = absurd cc
no_words false false false true p front e = absurd cc
no_words false false false false true front e = append-nil front
no_words false false false false false front e = refl

pub without_words : (q : Qualifiers) (p : Parts) → is_unqualified q ≡ true → (modified q p).front ≡ p.front
without_words q p e = no_words q.is_const q.is_volatile q.is_unaligned q.is_restrict p.is_right p.front e

-- ---- arguments

pub arguments_low : (types : List ItemEntry) (d : ℕ) (sub : ℕ → Parts) (l : ℕ) → l < 0x1000 → arguments_text types d sub l ≡ codes "(??)"
arguments_low types d sub l h = rw (lt-ltb l 0x1000 h) refl

pub arguments_end : (types : List ItemEntry) (d : ℕ) (sub : ℕ → Parts) (l : ℕ) → 0x1000 ≤ l → d ≡ 0 → arguments_text types d sub l ≡ codes "(<...>)"
arguments_end types d sub l h e = rw (le-ltb l 0x1000 h, e) refl

pub arguments_step : (types : List ItemEntry) (first : List ℕ → Option ℕ) (d l : ℕ) (says : Option TypeSays) → 0x1000 ≤ l → 0 < d → says ≡ says_of types l → arguments_text types d (parts types first d) l ≡ arguments_by (parts_of types first (d - 1) (parts types first (d - 1)) says).front says
arguments_step types first d l says h lt e = rw (le-ltb l 0x1000 h, ne_eqb d 0 (λ q. omega (arith, lt, q)), parts_step types first d l says h lt e, ← e) refl
