-- The scopes that are open, the innermost of which stands last in memory and first in definitions.
use Rattle.std.proofs.Common.{◌≡◌, ◌↔◌, ℕ, ◌+◌, ◌-◌, ◌<◌, List, [], ◌∷◌, ◌++◌, reverse, length, take, get_or, Option, Some, None, IsSome, option_to_list, refl, sym, ap, subst, ◌∙◌, arith}
use Rattle.std.specs.List.{slice_get}
use Rattle.std.specs.Option.{is_some}
use Rattle.std.proofs.lemmas.List.{length-append, length-reverse, reverse-append, take_more, take_all}
use Rattle.pdb_variables.specs.VariableWalk.{function_scope, innermost, left_open, still_open}
use Rattle.pdb_variables.specs.declared.frame_bases.Bases.{Bases}
use Rattle.pdb_variables.specs.declared.open_scopes.OpenScope.{OpenScope}

pub one_more : (xs ys : List OpenScope) (x : OpenScope) → ys ≡ xs ++ x ∷ [] → reverse ys ≡ x ∷ reverse xs
one_more xs ys x e = ap (λ (l : List OpenScope). reverse l) e ∙ reverse-append xs (x ∷ [])

pub count_is : (xs : List OpenScope) → length (reverse xs) ≡ length xs
count_is xs = length-reverse xs

pub popped : (old new : List OpenScope) (r : Option OpenScope) → old ≡ new ++ option_to_list r → IsSome r ↔ (0 < length old) → still_open (is_some r) (reverse new) ≡ left_open (reverse old)
popped old new (Some x) e there = sym (ap left_open (one_more new old x e))
popped [] [] None e there = refl
popped (x ∷ old) new None e there = let h = there.1 (omega arith) in absurd cc
popped [] (x ∷ new) None e there = absurd cc

-- ---- the last one

abbrev scope_or : Bases → Option OpenScope → OpenScope
scope_or bases None = function_scope bases
scope_or bases (Some x) = x

get_last : (xs : List OpenScope) (x : OpenScope) → slice_get (xs ++ x ∷ []) (length xs) ≡ Some x
get_last [] x = refl
get_last (y ∷ xs) x = get_last xs x

last_of : (bases : Bases) (xs : List OpenScope) (x : OpenScope) → scope_or bases (slice_get (xs ++ x ∷ []) (length (xs ++ x ∷ []) - 1)) ≡ innermost bases (reverse (xs ++ x ∷ []))
last_of bases xs x =
    let n = length-append xs (x ∷ []) in
    let e : length (xs ++ x ∷ []) - 1 ≡ length xs = omega arith in
    ap (λ (k : ℕ). scope_or bases (slice_get (xs ++ x ∷ []) k)) e
    ∙ (ap (scope_or bases) (get_last xs x)
    ∙ sym (ap (λ (l : List OpenScope). innermost bases l) (reverse-append xs (x ∷ []))))

pub last_is : (bases : Bases) (xs : List OpenScope) → scope_or bases (slice_get xs (length xs - 1)) ≡ innermost bases (reverse xs)
last_is bases [] = refl
last_is bases (x ∷ xs) =
    let n : ℕ = length xs in
    let all : take (n + 1) (x ∷ xs) ≡ x ∷ xs = take_all (n + 1) (x ∷ xs) (omega arith) in
    let split : take (n + 1) (x ∷ xs) ≡ take n (x ∷ xs) ++ get_or (x ∷ xs) n x ∷ [] = take_more (x ∷ xs) n x (omega arith) in
    subst (λ (l : List OpenScope). scope_or bases (slice_get l (length l - 1)) ≡ innermost bases (reverse l)) (sym split ∙ all) (last_of bases (take n (x ∷ xs)) (get_or (x ∷ xs) n x))
