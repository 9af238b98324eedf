-- What has been written, piece after piece.
use Rattle.std.proofs.Common.{◌≡◌, ℕ, min, suc, ◌+◌, ◌-◌, ◌<◌, ◌≤◌, List, ◌++◌, length, get_or, take, drop, Option, Some, None, sym, ap, ◌∙◌, append_assoc, arith, flat_map, length-drop, length-append, Result, Ok, Err, OnOk, OnErr}
use Rattle.std.specs.Io.KnownBytes.{Appends}
use Rattle.std.proofs.lemmas.List.{take-append-le, take-append-drop, drop-take, take-take}
use Rattle.std.proofs.lemmas.Grind.{common_steps, flat_map-append}
use Rattle.std.proofs.Math.Seq.{take-append-add, drop-cons}
use Rattle.pdb_text.specs.Written.{WroteFirst, WroteFront}

pub on_ok : {A E : Type 0} {P Q : Type 0} (r : Result A E) → (P → Q) → OnOk r P → OnOk r Q
on_ok (Ok x) f h = f h
on_ok (Err e) f h = tt

pub on_err : {A E : Type 0} {P Q : Type 0} (r : Result A E) → (P → Q) → OnErr r P → OnErr r Q
on_err (Ok x) f h = tt
on_err (Err e) f h = f h

pub any_err : {A E : Type 0} {P : Type 0} (r : Result A E) → P → OnErr r P
any_err (Ok x) h = tt
any_err (Err e) h = h

pub appends_then : (a b c : Option (List ℕ)) (xs ys : List ℕ) → Appends a b xs → Appends b c ys → Appends a c (xs ++ ys)
appends_then None b c xs ys h k = tt
appends_then (Some a) None c xs ys h k = absurd h
appends_then (Some a) (Some b) None xs ys h k = absurd k
appends_then (Some a) (Some b) (Some c) xs ys h k = k ∙ ap (λ zs. zs ++ ys) h ∙ append_assoc a xs ys

-- a beginning is one of anything longer
pub front_of : (a b : Option (List ℕ)) (xs ys : List ℕ) → WroteFront a b xs → WroteFront a b (xs ++ ys)
front_of a b xs ys w =
    let e : take w.0 (xs ++ ys) ≡ take w.0 xs = take-append-le w.0 xs ys w.1 in
    (w.0, omega (arith, w.1, length-append xs ys), rw e w.2)

-- all of a piece, and then a beginning of the next
pub front_then : (a b c : Option (List ℕ)) (xs ys : List ℕ) → Appends a b xs → WroteFront b c ys → WroteFront a c (xs ++ ys)
front_then a b c xs ys h w =
    (length xs + w.0, omega (arith, w.1, length-append xs ys), rw (take-append-add xs ys w.0) (appends_then a b c xs (take w.0 ys) h w.2))

-- all is a beginning
pub front_all : (a b : Option (List ℕ)) (xs : List ℕ) → Appends a b xs → WroteFront a b xs
front_all a b xs h =
    let e : take (length xs) xs ≡ xs = grind (arith, common_steps) in
    (length xs, omega arith, rw e h)

-- as many bytes as there are
pub shorter : (a b : Option (List ℕ)) (xs : List ℕ) (n : ℕ) → Appends a b (take n xs) → WroteFront a b xs
shorter a b xs n h =
    let e : take (min n (length xs)) xs ≡ take n xs = grind (arith, common_steps) in
    (min n (length xs), omega arith, rw e h)

-- a front, and a front of what follows it
pub take_two : (b : List ℕ) (i n : ℕ) → take i b ++ take n (drop i b) ≡ take (i + n) b
take_two b i n =
    let e = take-append-drop i (take (i + n) b) in
    let f : take i (take (i + n) b) ≡ take i b = take-take i (i + n) b (omega arith) in
    let g = drop-take i n b in
    rw (← g, ← f) e

take_rest : (b : List ℕ) (i : ℕ) → take (length b - i) (drop i b) ≡ drop i b
take_rest b i = grind (arith, common_steps)

pub goes_on : (b : List ℕ) (i n : ℕ) → i ≤ length b → n ≤ length (take (length b - i) (drop i b)) → (i + n ≤ length b) × (take i b ++ take n (take (length b - i) (drop i b)) ≡ take (i + n) b)
goes_on b i n h k =
    let r = take_rest b i in
    let m : n ≤ length (drop i b) = rw r at k in
    (omega (arith, m, length-drop i b), rw r (take_two b i n))

-- the pieces before an element, and a front of its piece, are a front of all pieces
flat_map_first : {X : Type 0} (f : X → List ℕ) (xs : List X) (i n : ℕ) (d : X) → i < length xs → n ≤ length (f (get_or xs i d))
    → flat_map f (take i xs) ++ take n (f (get_or xs i d)) ≡ take (length (flat_map f (take i xs)) + n) (flat_map f xs)
flat_map_first f xs i n d lt h =
    let x = get_or xs i d in
    let rest = drop (suc i) xs in
    let all : flat_map f xs ≡ flat_map f (take i xs) ++ (f x ++ flat_map f rest) = ap (flat_map f) (sym (take-append-drop i xs)) ∙ flat_map-append f (take i xs) (drop i xs) ∙ ap (λ ys. flat_map f (take i xs) ++ flat_map f ys) (drop-cons xs i d lt) in
    let front : take n (f x ++ flat_map f rest) ≡ take n (f x) = take-append-le n (f x) (flat_map f rest) h in
    sym (ap (take (length (flat_map f (take i xs)) + n)) all ∙ take-append-add (flat_map f (take i xs)) (f x ++ flat_map f rest) n ∙ ap (λ ys. flat_map f (take i xs) ++ ys) front)

-- ---- texts of things, one after another: those of the first i were written

-- and the next one's
pub texts_more : {X : Type 0} (f : X → List ℕ) (a b c : Option (List ℕ)) (xs : List X) (i : ℕ) (d : X) → i < length xs
    → Appends a b (flat_map f (take i xs)) → Appends b c (f (get_or xs i d)) → Appends a c (flat_map f (take (i + 1) xs))
texts_more f a b c xs i d lt h k =
    let e : flat_map f (take (i + 1) xs) ≡ flat_map f (take i xs) ++ f (get_or xs i d) = grind (arith, common_steps) in
    rw e (appends_then a b c _ _ h k)

-- and a beginning of the next one's: a beginning of all
pub texts_front : {X : Type 0} (f : X → List ℕ) (a b c : Option (List ℕ)) (xs : List X) (i : ℕ) (d : X) → i < length xs
    → Appends a b (flat_map f (take i xs)) → WroteFront b c (f (get_or xs i d)) → WroteFront a c (flat_map f xs)
texts_front f a b c xs i d lt h w =
    let first = flat_map f (take i xs) in
    let e = flat_map_first f xs i w.0 d lt w.1 in
    let all = appends_then a b c first (take w.0 (f (get_or xs i d))) h w.2 in
    let whole = flat_map f xs in
    shorter a c whole (length first + w.0) (rw e at all)

-- ---- a run over the things behind the first i, whose texts were written

both : {X : Type 0} (f : X → List ℕ) (xs : List X) (i : ℕ) → flat_map f xs ≡ flat_map f (take i xs) ++ flat_map f (drop i xs)
both f xs i = ap (flat_map f) (sym (take-append-drop i xs)) ∙ flat_map-append f (take i xs) (drop i xs)

-- nothing was written
pub first_none : {X : Type 0} (text : X → List ℕ) (a : Option (List ℕ)) (xs : List X) → WroteFirst text a a xs
first_none text None xs = (0, omega arith, tt)
first_none text (Some a) xs = (0, omega arith, grind (arith, common_steps))

-- the texts of the first i are a beginning of all
pub so_far_front : {X : Type 0} (f : X → List ℕ) (a b : Option (List ℕ)) (xs : List X) (i : ℕ) → Appends a b (flat_map f (take i xs)) → WroteFront a b (flat_map f xs)
so_far_front f a b xs i h = rw (both f xs i) (front_of a b (flat_map f (take i xs)) (flat_map f (drop i xs)) (front_all a b (flat_map f (take i xs)) h))
