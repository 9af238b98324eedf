-- The values of `--symbols`, one word after another.
use Rattle.std.proofs.Common.{◌≡◌, ℕ, suc, ◌+◌, ◌<◌, ◌≤◌, List, [], ◌∷◌, ◌++◌, length, map, get_or, drop, Option, Some, None, refl, sym, ◌∙◌, append_assoc, append-nil, arith}
use Rattle.std.proofs.Math.Seq.{drop-cons}
use Rattle.std.proofs.lemmas.Grind.{common_steps}
use Rattle.tool_arguments.specs.Operands.{WordAt}
use Rattle.tool_arguments.specs.Options.{behind_word}
use Rattle.tool_arguments.specs.SymbolValues.{symbol_values, value_there}
use Rattle.tool_arguments.specs.declared.options.Next.{Next}
use Rattle.tool_arguments.specs.declared.options.Next.TheVariants.{Word}

next_of : {X : Type 0} (words : List X) (i : ℕ) (d : X) → i < length words → drop i words ≡ get_or words i d ∷ drop (i + 1) words
next_of words i d lt =
    let one : suc i ≡ i + 1 = omega arith in
    rw one at (drop-cons words i d lt)

-- a word with a value
pub value_is : {X : Type 0} (bytes : X → List ℕ) (words : List X) (all so_far : List WordAt) (next : Next) (i p : ℕ) (d : X) (value : List ℕ)
    → i < length words → value_there next (bytes (get_or words i d)) ≡ Some value
    → all ≡ so_far ++ symbol_values next (map bytes (drop i words)) (p + i)
    → all ≡ (so_far ++ record { argument = p + i; word = value } ∷ []) ++ symbol_values (behind_word next (bytes (get_or words i d))) (map bytes (drop (i + 1) words)) (p + (i + 1))
value_is bytes words all so_far next i p d value lt is h =
    let place : p + (i + 1) ≡ p + i + 1 = omega arith in
    let one = rw (next_of words i d lt, is) at h in
    rw place (one ∙ sym (append_assoc so_far (record { argument = p + i; word = value } ∷ []) _))

-- one without
pub no_value : {X : Type 0} (bytes : X → List ℕ) (words : List X) (all so_far : List WordAt) (next : Next) (i p : ℕ) (d : X)
    → i < length words → value_there next (bytes (get_or words i d)) ≡ None
    → all ≡ so_far ++ symbol_values next (map bytes (drop i words)) (p + i)
    → all ≡ so_far ++ symbol_values (behind_word next (bytes (get_or words i d))) (map bytes (drop (i + 1) words)) (p + (i + 1))
no_value bytes words all so_far next i p d lt is h =
    let place : p + (i + 1) ≡ p + i + 1 = omega arith in
    rw place (rw (next_of words i d lt, is) at h)

pub ends : {X : Type 0} (next : Next) (bytes : X → List ℕ) (words : List X) (all so_far : List WordAt) (i p : ℕ)
    → length words ≤ i → all ≡ so_far ++ symbol_values next (map bytes (drop i words)) p → so_far ≡ all
ends next bytes words all so_far i p h t =
    let none : drop i words ≡ [] = grind (arith, common_steps) in
    let s = rw none at t in
    sym (s ∙ append-nil so_far)

pub begins : {X : Type 0} (bytes : X → List ℕ) (words : List X) (p : ℕ) → symbol_values Word (map bytes words) p ≡ symbol_values Word (map bytes words) (p + 0)
begins bytes words p =
    let same : p + 0 ≡ p = omega arith in
    rw same refl
