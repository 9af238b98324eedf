-- A file of streams: what is refused, and its pieces.
use Rattle.std.proofs.Common.{◌≡◌, ℕ, zero, suc, ◌+◌, ◌<◌, ◌≤◌, List, [], ◌∷◌, ◌++◌, length, get_or, take, true, false, refl, sym, ap, ◌∙◌, arith, flat_map, nat_lt, nat_le, add-zero, append-nil, sum_by, map, Bool, Option, Bor}
use Rattle.std.specs.List.{range_with_len, list_any}
use Rattle.std.proofs.lemmas.Grind.{common_steps, flat_map-append}
use Rattle.std.proofs.lemmas.List.{take_more, get_or-map, length-map}
use Rattle.std.proofs.lemmas.Bool.Decides.{nat_tests}
use Rattle.std.proofs.lemmas.List.Folds.{list_any_at, list_any-append}
use Rattle.std.proofs.lemmas.List.Sums.{sum_by_more_le, sum_by_more}
use Rattle.pdb_sample.specs.Sample.{Stream, stream_of, number_bytes, numbers_from, all_pages, stream_pages, directory_size, list_pages, file_pages, is_too_long, is_refused}

-- a stream that is too long
pub long_refused : (streams : List Stream) (i : ℕ) (d : Stream) → i < length streams → is_too_long (get_or streams i d) ≡ true → is_refused streams ≡ true
unfolding is_refused
long_refused streams i d lt e =
    let a = list_any_at is_too_long streams i d lt e in
    rw a refl

-- too many pages before the directory's
pub many_refused : (streams : List Stream) → 4294967295 < all_pages streams → is_refused streams ≡ true
unfolding is_refused
many_refused streams h =
    let b : nat_lt 4294967295 (file_pages streams) ≡ true = grind (arith, nat_tests) in
    rw b (grind arith)

-- too many pages up to a stream
pub so_many_refused : (streams : List Stream) (i : ℕ) (d : Stream) (n : ℕ) → i < length streams → n ≡ all_pages (take i streams)
    → 4294967295 < n + stream_pages (get_or streams i d) → is_refused streams ≡ true
so_many_refused streams i d n lt e h =
    many_refused streams (omega (arith, sum_by_more_le stream_pages streams i d lt))

-- too many streams
pub streams_refused : (streams : List Stream) → 4294967295 < length streams → is_refused streams ≡ true
unfolding is_refused directory_size
streams_refused streams h =
    let b : nat_le 4294967296 (directory_size streams) ≡ true = grind (arith, nat_tests) in
    rw b (grind arith)

-- too many pages of the page list
pub list_refused : (streams : List Stream) → 115 < list_pages streams → is_refused streams ≡ true
unfolding is_refused
list_refused streams h =
    let b : nat_lt 115 (list_pages streams) ≡ true = grind (arith, nat_tests) in
    rw b (grind arith)

-- everything else is made
pub made_of : (streams : List Stream) → list_any is_too_long streams ≡ false → list_pages streams ≤ 115 → is_refused streams ≡ false
unfolding is_refused directory_size
made_of streams short few =
    let a : nat_lt 115 (list_pages streams) ≡ false = grind (arith, nat_tests) in
    let b : directory_size streams ≤ 7536640 = omega arith in
    let c : nat_le 4294967296 (directory_size streams) ≡ false = grind (arith, nat_tests) in
    let d : file_pages streams ≤ 4294967295 = omega arith in
    let e : nat_lt 4294967295 (file_pages streams) ≡ false = grind (arith, nat_tests) in
    rw (short, a, c, e) refl

range_more : (a n : ℕ) → range_with_len a (n + 1) ≡ range_with_len a n ++ (a + n) ∷ []
range_more a zero = ap (λ m. m ∷ []) (sym (add-zero a))
range_more a (suc n) =
    let h = range_more (a + 1) n in
    let e : a + 1 + n ≡ a + suc n = omega arith in
    let s : suc n + 1 ≡ suc (n + 1) = omega arith in
    rw s (ap (λ xs. a ∷ xs) (rw e at h))

-- one more number
pub numbers_more : (first k : ℕ) → numbers_from first (k + 1) ≡ numbers_from first k ++ number_bytes (first + k)
numbers_more first k = rw (range_more first k, flat_map-append number_bytes (range_with_len first k) ((first + k) ∷ [])) (grind (arith, common_steps))

-- ---- streams by references, one after another

pub length_of_streams : (streams : List (Option (Bor (List ℕ)))) → length (map stream_of streams) ≡ length streams
length_of_streams streams = length-map streams stream_of

one_more : {X Y : Type 0} (f : X → Y) (xs : List X) (i : ℕ) (d : X) → i < length xs → take (i + 1) (map f xs) ≡ take i (map f xs) ++ f (get_or xs i d) ∷ []
one_more f xs i d lt =
    let within : i < length (map f xs) = omega (arith, length-map xs f) in
    take_more (map f xs) i (f d) within ∙ ap (λ y. take i (map f xs) ++ y ∷ []) (get_or-map f xs i d (f d) lt)

pub pieces_more : {X Y : Type 0} (g : Y → List ℕ) (f : X → Y) (xs : List X) (i : ℕ) (d : X) → i < length xs
    → flat_map g (take (i + 1) (map f xs)) ≡ flat_map g (take i (map f xs)) ++ g (f (get_or xs i d))
pieces_more g f xs i d lt =
    ap (flat_map g) (one_more f xs i d lt) ∙ flat_map-append g (take i (map f xs)) (f (get_or xs i d) ∷ []) ∙ ap (λ ys. flat_map g (take i (map f xs)) ++ ys) (append-nil (g (f (get_or xs i d))))

pub sum_more : {X Y : Type 0} (g : Y → ℕ) (f : X → Y) (xs : List X) (i : ℕ) (d : X) → i < length xs
    → sum_by g (take (i + 1) (map f xs)) ≡ sum_by g (take i (map f xs)) + g (f (get_or xs i d))
sum_more g f xs i d lt =
    let within : i < length (map f xs) = omega (arith, length-map xs f) in
    sum_by_more g (map f xs) i (f d) within ∙ ap (λ y. sum_by g (take i (map f xs)) + g y) (get_or-map f xs i d (f d) lt)

not_true : (b : Bool) → (b ≡ true → ⊥) → b ≡ false
not_true true h = absurd (h refl)
not_true false h = refl

pub none_more : {X Y : Type 0} (p : Y → Bool) (f : X → Y) (xs : List X) (i : ℕ) (d : X) → i < length xs
    → list_any p (take i (map f xs)) ≡ false → p (f (get_or xs i d)) ≡ false → list_any p (take (i + 1) (map f xs)) ≡ false
none_more p f xs i d lt before here =
    ap (list_any p) (one_more f xs i d lt) ∙ list_any-append p (take i (map f xs)) (f (get_or xs i d) ∷ []) ∙ rw (before, here) refl

pub none_at : {X Y : Type 0} (p : Y → Bool) (f : X → Y) (xs : List X) (i : ℕ) (d : X) → i < length xs
    → list_any p (map f xs) ≡ false → p (f (get_or xs i d)) ≡ false
none_at p f xs i d lt none =
    let within : i < length (map f xs) = omega (arith, length-map xs f) in
    let here = get_or-map f xs i d (f d) lt in
    not_true (p (f (get_or xs i d))) (λ t. let some : list_any p (map f xs) ≡ true = list_any_at p (map f xs) i (f d) within (rw here t) in cc)
