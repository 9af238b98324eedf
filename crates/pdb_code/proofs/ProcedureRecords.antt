-- A procedure's record says the code whose numbers stand in it.
use Rattle.std.proofs.Common.{◌≡◌, ◌≤◌, ◌<◌, ◌+◌, ◌-◌, ◌⊎◌, ⊎_elim, ℕ, true, false, List, length, drop, take, get_or, Ok, refl, ap, ◌∙◌, arith, leb, length-drop, get_or-drop, true≢false}
use Rattle.std.specs.Prelude.{◌==◌, nat_lt}
use Rattle.std.specs.List.{position_or_len}
use Rattle.std.proofs.lemmas.Bool.{cases_lt}
use Rattle.std.proofs.lemmas.Bool.Decides.{nat_tests}
use Rattle.std.proofs.lemmas.List.Sums.{fails_before_first}
use Rattle.pdb_base.specs.Fields.{number, cstring_at, number_at}
use Rattle.pdb_base.specs.Layouts.{together_at}
use Rattle.pdb_base.proofs.Numbers.{number_1}
use Rattle.pdb.specs.Forms.{kind_at, record_at, fields_at}
use Rattle.pdb_symbols.specs.Kinds.{row}
use Rattle.pdb_symbols.specs.Parts.{name_at, offset_at}
use Rattle.pdb_symbols.specs.FormTable.{read_of}
use Rattle.pdb_code.specs.ModuleCode.{role}
use Rattle.pdb_code.specs.Kept.{EndsInZero, procedure_role}

-- a zero byte is found at or before one
zero_found : (xs : List ℕ) (i : ℕ) → i < length xs → get_or xs i 0 ≡ 0 → nat_lt (position_or_len (λ x. x == 0) xs) (length xs) ≡ true
zero_found xs i lt zero = ⊎_elim
    (λ before. let no : true ≡ false = rw zero at (fails_before_first (λ x. x == 0) xs i 0 before) in absurd (true≢false no))
    (λ upto. grind (arith, nat_tests))
    (cases_lt i (position_or_len (λ x. x == 0) xs))

-- so the name ends
name_ends : (b : List ℕ) → EndsInZero b → (name : List ℕ) × (cstring_at b 37 ≡ Ok name)
unfolding cstring_at
name_ends b h =
    let last : 37 + (length b - 38) ≡ length b - 1 = let long = h.long in omega arith in
    let zero = get_or-drop 37 b (length b - 38) 0 ∙ (ap (λ (k : ℕ). get_or b k 0) last ∙ (number_1 b (length b - 1) ∙ h.zero)) in
    let inside : length b - 38 < length (drop 37 b) = let long = h.long in rw (length-drop 37 b) (omega arith) in
    let found = zero_found (drop 37 b) (length b - 38) inside zero in
    (take (position_or_len (λ x. x == 0) (drop 37 b)) (drop 37 b), rw found refl)

there : (n l : ℕ) → n ≤ 37 → 38 ≤ l → leb n l ≡ true
there n l h e = grind arith

procedure_by : (b name : List ℕ) → 38 ≤ length b → cstring_at b 37 ≡ Ok name → (role (fields_at (row 0x110f) 0x110f b) ≡ procedure_role b) × (role (fields_at (row 0x1110) 0x1110 b) ≡ procedure_role b)
unfolding read_of together_at number_at name_at offset_at number
procedure_by b name h e =
    let at = λ (n : ℕ) (le : n ≤ 37). there n (length b) le h in (
      rw (at 6 (omega arith), at 10 (omega arith), at 14 (omega arith), at 18 (omega arith), at 22 (omega arith), at 26 (omega arith), at 30 (omega arith), at 34 (omega arith), at 36 (omega arith), at 37 (omega arith), e) refl,
      rw (at 6 (omega arith), at 10 (omega arith), at 14 (omega arith), at 18 (omega arith), at 22 (omega arith), at 26 (omega arith), at 30 (omega arith), at 34 (omega arith), at 36 (omega arith), at 37 (omega arith), e) refl,
    )

-- a record of the two usual kinds whose last byte is zero
pub procedure_read : (b : List ℕ) → (kind_at b ≡ 0x110f) ⊎ (kind_at b ≡ 0x1110) → EndsInZero b → role (record_at b) ≡ procedure_role b
procedure_read b kind h =
    let ends = name_ends b h in
    let both = procedure_by b ends.0 h.long ends.1 in
    ⊎_elim
    (λ local. ap (λ (k : ℕ). role (fields_at (row k) k b)) local ∙ both.0)
    (λ global. ap (λ (k : ℕ). role (fields_at (row k) k b)) global ∙ both.1)
    kind
