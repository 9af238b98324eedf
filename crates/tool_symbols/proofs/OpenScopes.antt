-- The scopes that are open, the innermost of which stands last in memory and first in definitions.
use Rattle.std.proofs.Common.{◌≡◌, ◌↔◌, ℕ, ◌+◌, ◌-◌, ◌<◌, ◌≤◌, min, List, [], ◌∷◌, ◌++◌, reverse, length, take, get_or, Option, Some, None, IsSome, option_to_list, refl, sym, ap, subst, ◌∙◌, arith}
use Rattle.std.specs.List.{slice_get}
use Rattle.std.proofs.lemmas.List.{length-append, reverse-append, take_more, take_all}
use Rattle.pdb_base.specs.Tiling.{listing}
use Rattle.pdb_symbols.specs.SymbolList.{symbols, symbols_from}
use Rattle.tool_symbols.specs.ScopeFrames.{bases_or, innermost, no_bases, outer}
use Rattle.tool_symbols.specs.declared.scope_frames.Bases.{Bases}

pub one_more : (xs ys : List Bases) (x : Bases) → ys ≡ xs ++ x ∷ [] → reverse ys ≡ x ∷ reverse xs
one_more xs ys x e = ap (λ (l : List Bases). reverse l) e ∙ reverse-append xs (x ∷ [])

pub one_fewer : (old new : List Bases) (r : Option Bases) → old ≡ new ++ option_to_list r → IsSome r ↔ (0 < length old) → outer (reverse old) ≡ reverse new
one_fewer old new (Some x) e there = ap outer (one_more new old x e)
one_fewer [] [] None e there = refl
one_fewer (x ∷ old) new None e there = let h = there.1 (omega arith) in absurd cc
one_fewer [] (x ∷ new) None e there = absurd cc

-- ---- the last one

get_last : (xs : List Bases) (x : Bases) → slice_get (xs ++ x ∷ []) (length xs) ≡ Some x
get_last [] x = refl
get_last (y ∷ xs) x = get_last xs x

last_of : (xs : List Bases) (x : Bases) → bases_or (slice_get (xs ++ x ∷ []) (length (xs ++ x ∷ []) - 1)) no_bases ≡ innermost (reverse (xs ++ x ∷ []))
last_of xs x =
    let n = length-append xs (x ∷ []) in
    let e : length (xs ++ x ∷ []) - 1 ≡ length xs = omega arith in
    ap (λ (k : ℕ). bases_or (slice_get (xs ++ x ∷ []) k) no_bases) e
    ∙ (ap (λ (o : Option Bases). bases_or o no_bases) (get_last xs x)
    ∙ sym (ap (λ (l : List Bases). innermost l) (reverse-append xs (x ∷ []))))

pub last_is : (xs : List Bases) → bases_or (slice_get xs (length xs - 1)) no_bases ≡ innermost (reverse xs)
last_is [] = refl
last_is (x ∷ xs) =
    let n : ℕ = length xs in
    let all : take (n + 1) (x ∷ xs) ≡ x ∷ xs = take_all (n + 1) (x ∷ xs) (omega arith) in
    let split : take (n + 1) (x ∷ xs) ≡ take n (x ∷ xs) ++ get_or (x ∷ xs) n x ∷ [] = take_more (x ∷ xs) n x (omega arith) in
    subst (λ (l : List Bases). bases_or (slice_get l (length l - 1)) no_bases ≡ innermost (reverse l)) (sym split ∙ all) (last_of (take n (x ∷ xs)) (get_or (x ∷ xs) n x))

-- ---- an iterator that went on, and back again

pub back_again : (b : List ℕ) (p at : ℕ) → p ≡ at → at ≤ length b → symbols_from b at ≡ listing symbols b p
back_again b p at same inside = let e : min at (length b) ≡ p = omega arith in ap (listing symbols b) e
