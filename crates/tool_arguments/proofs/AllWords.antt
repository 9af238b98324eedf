-- Operands that are all of one kind.
use Rattle.std.proofs.Common.{◌≡◌, ℕ, suc, ◌+◌, ◌<◌, ◌≤◌, List, [], ◌∷◌, ◌++◌, length, map, get_or, drop, Result, Ok, Err, refl, sym, ap, ◌∙◌, append_assoc, append-nil, arith}
use Rattle.std.proofs.Math.Seq.{drop-cons}
use Rattle.std.proofs.lemmas.Grind.{common_steps}
use Rattle.tool_arguments.specs.Operands.{WordAt, all_in, with_first}
use Rattle.tool_arguments.specs.declared.mistakes.Mistake.{Mistake}
use Rattle.tool_arguments.specs.declared.mistakes.Wrong.{Wrong}

-- some before others
abbrev pub behind : {A : Type 0} → List A → Result (List A) Mistake → Result (List A) Mistake
behind xs (Ok ys) = Ok (xs ++ ys)
behind xs (Err m) = Err m

first_then : {A : Type 0} (xs : List A) (x : A) (judged : Result (List A) Mistake) (p : ℕ) → behind xs (with_first (Ok x) judged p) ≡ behind (xs ++ x ∷ []) judged
first_then xs x (Ok ys) p = ap Ok (sym (append_assoc xs (x ∷ []) ys))
first_then xs x (Err m) p = refl

-- one more operand was read
pub one_more : {A X : Type 0} (of : WordAt → Result A Wrong) (view : X → WordAt) (words : List X) (judged : Result (List A) Mistake) (xs : List A) (i : ℕ) (d : X) (x : A)
    → i < length words → of (view (get_or words i d)) ≡ Ok x
    → judged ≡ behind xs (all_in of (map view (drop i words))) → judged ≡ behind (xs ++ x ∷ []) (all_in of (map view (drop (i + 1) words)))
one_more of view words judged xs i d x lt e h =
    let one : suc i ≡ i + 1 = omega arith in
    let next : drop i words ≡ get_or words i d ∷ drop (i + 1) words = rw one at (drop-cons words i d lt) in
    let s = rw (next, e) at h in
    s ∙ first_then xs x (all_in of (map view (drop (i + 1) words))) (view (get_or words i d)).argument

pub wrong_there : {A X : Type 0} (of : WordAt → Result A Wrong) (view : X → WordAt) (words : List X) (judged : Result (List A) Mistake) (xs : List A) (i : ℕ) (d : X) (wrong : Wrong)
    → i < length words → of (view (get_or words i d)) ≡ Err wrong
    → judged ≡ behind xs (all_in of (map view (drop i words))) → judged ≡ Err (record { argument = (view (get_or words i d)).argument; wrong = wrong })
wrong_there of view words judged xs i d wrong lt e h = rw (drop-cons words i d lt, e) at h

pub all_there : {A X : Type 0} (of : WordAt → Result A Wrong) (view : X → WordAt) (words : List X) (judged : Result (List A) Mistake) (xs : List A) (i : ℕ)
    → length words ≤ i → judged ≡ behind xs (all_in of (map view (drop i words))) → judged ≡ Ok xs
all_there of view words judged xs i h t =
    let none : drop i words ≡ [] = grind (arith, common_steps) in
    let s = rw none at t in
    s ∙ ap Ok (append-nil xs)

nothing_before : {A : Type 0} (judged : Result (List A) Mistake) → judged ≡ behind [] judged
nothing_before (Ok ys) = refl
nothing_before (Err m) = refl

pub begins : {A X : Type 0} (of : WordAt → Result A Wrong) (view : X → WordAt) (words : List X) (xs : List A) → xs ≡ [] → all_in of (map view words) ≡ behind xs (all_in of (map view words))
begins of view words xs none = rw none (nothing_before (all_in of (map view words)))
