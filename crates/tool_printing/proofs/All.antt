-- What is printed of things, one after another.
use Rattle.std.proofs.Common.{◌≡◌, ℕ, zero, suc, ◌+◌, ◌<◌, ◌≤◌, Bool, true, false, ◌||◌, List, [], ◌∷◌, ◌++◌, length, take, drop, get_or, flat_map, map, refl, sym, ap, ◌∙◌, append_assoc, append-nil, arith}
use Rattle.std.proofs.lemmas.List.{take_all}
use Rattle.tool_printing.specs.Printing.{Halted, Printed, Printing, Shown, all_shown, has_mark, join, nothing, shown, unmarked}
use Rattle.tool_printing.proofs.Marks.{shown-append}
use Rattle.tool_printing.proofs.Printed.{halted_more, halted_none, halted_then, or_assoc, printed_front, printed_none, printed_then, shows_nothing}

or_none : (a : Bool) → (a || false) ≡ a
or_none true = refl
or_none false = refl

join_nothing : (a : Shown) → join a nothing ≡ a
join_nothing a = rw (append-nil a.bytes, or_none a.damaged) refl

join_assoc : (a b c : Shown) → join (join a b) c ≡ join a (join b c)
join_assoc a b c = rw (append_assoc a.bytes b.bytes c.bytes, or_assoc a.damaged b.damaged c.damaged) refl

next_shown : {X : Type 0} (text : X → Shown) (xs : List X) (i : ℕ) (d : X) → i < length xs → all_shown text (take (i + 1) xs) ≡ join (all_shown text (take i xs)) (text (get_or xs i d))
next_shown text [] i d lt = absurd (omega arith)
next_shown text (x ∷ xs) zero d lt = join_nothing (text x)
next_shown text (x ∷ xs) (suc i) d lt =
    let one : suc i + 1 ≡ suc (i + 1) = omega arith in
    rw one (ap (join (text x)) (next_shown text xs i d (omega arith)) ∙ sym (join_assoc (text x) (all_shown text (take i xs)) (text (get_or xs i d))))

split_shown : {X : Type 0} (text : X → Shown) (xs : List X) (i : ℕ) → join (all_shown text (take i xs)) (all_shown text (drop i xs)) ≡ all_shown text xs
split_shown text [] zero = refl
split_shown text [] (suc i) = refl
split_shown text (x ∷ xs) zero = refl
split_shown text (x ∷ xs) (suc i) = join_assoc (text x) (all_shown text (take i xs)) (all_shown text (drop i xs)) ∙ ap (join (text x)) (split_shown text xs i)

pub all_shown-append : {X : Type 0} (text : X → Shown) (xs ys : List X) → all_shown text (xs ++ ys) ≡ join (all_shown text xs) (all_shown text ys)
all_shown-append text [] ys = refl
all_shown-append text (x ∷ xs) ys = ap (join (text x)) (all_shown-append text xs ys) ∙ sym (join_assoc (text x) (all_shown text xs) (all_shown text ys))

pub all_mapped : {X Y : Type 0} (text : Y → Shown) (of : X → Y) (xs : List X) → all_shown text (map of xs) ≡ all_shown (λ x. text (of x)) xs
all_mapped text of [] = refl
all_mapped text of (x ∷ xs) = ap (join (text (of x))) (all_mapped text of xs)

-- nothing was printed of none
pub all_none : {X : Type 0} (text : X → Shown) (xs : List X) (s : Printing) → Printed (all_shown text (take 0 xs)) s s
all_none text xs s = printed_none s

-- one thing more
pub all_more : {X : Type 0} (text : X → Shown) (s t u : Printing) (xs : List X) (i : ℕ) (d : X) → i < length xs → Printed (all_shown text (take i xs)) s t → Printed (text (get_or xs i d)) t u → Printed (all_shown text (take (i + 1) xs)) s u
all_more text s t u xs i d lt h k = rw (next_shown text xs i d lt) (printed_then (all_shown text (take i xs)) (text (get_or xs i d)) s t u h k)

-- the last was printed
pub all_whole : {X : Type 0} (text : X → Shown) (s t : Printing) (xs : List X) (i : ℕ) → length xs ≤ i → Printed (all_shown text (take i xs)) s t → Printed (all_shown text xs) s t
all_whole text s t xs i le h = rw (take_all i xs le) at h

-- a beginning of all
all_front : {X : Type 0} (text : X → Shown) (s t : Printing) (xs : List X) (i : ℕ) → Halted (all_shown text (take i xs)) s t → Halted (all_shown text xs) s t
all_front text s t xs i h = rw (← split_shown text xs i) (halted_more (all_shown text (take i xs)) (all_shown text (drop i xs)) s t h)

-- it ended at one of them
pub all_halted : {X : Type 0} (text : X → Shown) (s t u : Printing) (xs : List X) (i : ℕ) (d : X) → i < length xs → Printed (all_shown text (take i xs)) s t → Halted (text (get_or xs i d)) t u → Halted (all_shown text xs) s u
all_halted text s t u xs i d lt h k =
    let one : Halted (all_shown text (take (i + 1) xs)) s u = rw (next_shown text xs i d lt) (halted_then (all_shown text (take i xs)) (text (get_or xs i d)) s t u h k) in
    all_front text s u xs (i + 1) one

-- it ended before one of them
pub all_here : {X : Type 0} (text : X → Shown) (s t : Printing) (xs : List X) (i : ℕ) → Printed (all_shown text (take i xs)) s t → Halted (all_shown text xs) s t
all_here text s t xs i h = all_front text s t xs i (printed_front (all_shown text (take i xs)) s t h)

-- ---- texts with marks

none_shown : shown [] ≡ nothing
unfolding unmarked has_mark
none_shown = refl

pub shown_all : {X : Type 0} (text : X → List ℕ) (xs : List X) → shown (flat_map text xs) ≡ all_shown (λ x. shown (text x)) xs
shown_all text [] = none_shown
shown_all text (x ∷ xs) = shown-append (text x) (flat_map text xs) ∙ ap (join (shown (text x))) (shown_all text xs)
