-- The front of the file and the directory's list, by one view each.
use Rattle.std.proofs.Common.{◌≡◌, ℕ, ◌+◌, ◌*◌, ◌/◌, ◌<◌, ◌≤◌, ◌^◌, Bool, true, false, cond, List, [], ◌∷◌, length, take, drop, Result, Ok, Err, refl, sym, ap, ◌∙◌, arith, ltb}
use Rattle.std.specs.Prelude.{nat_le}
use Rattle.std.specs.Int.{div_ceil}
use Rattle.std.proofs.Math.Bool.{and-true, or-true}
use Rattle.std.proofs.Math.Nat.{mul-le-mul_right, mul-div-le}
use Rattle.std.proofs.lemmas.Bool.{lt-ltb, le-ltb}
use Rattle.std.proofs.lemmas.Bool.Decides.{nat_tests}
use Rattle.std.proofs.lemmas.List.{append-nil, get_or-take, take-take, length-take, length-drop}
use Rattle.pdb_base.specs.declared.error.Error.{Error}
use Rattle.pdb_base.specs.declared.error.Error.TheVariants.{IoError, OutOfMemory, UnexpectedEof, UnrecognizedFileFormat}
use Rattle.pdb_base.specs.Refusal.{Fails}
use Rattle.pdb_base.specs.Source.{viewed}
use Rattle.pdb_base.specs.Container.{numbers, head_of, Head, list_of, paged}
use Rattle.pdb_base.specs.Heads.{as_format}
use Rattle.pdb_base.proofs.Nums.{number-same, numbers-part}

abbrev view_one : List ℕ → ℕ → ℕ → Result (List ℕ) Error
view_one file offset size = viewed file (record { offset = offset; size = size } ∷ [])

one_is : (file : List ℕ) (o n : ℕ) → view_one file o n ≡ cond (nat_le (o + n) (length file)) (Ok (take n (drop o file))) (Err UnexpectedEof)
unfolding viewed
one_is file o n = rw (and-true, append-nil) refl

abbrev refused_or : {A : Type 0} → Bool → A → Result A Error
refused_or b x = cond b (Ok x) (Err UnexpectedEof)

was_ok : {A : Type 0} (b : Bool) (x y : A) → refused_or b x ≡ Ok y → (b ≡ true) × (y ≡ x)
was_ok true x y e = (refl, cc)
was_ok false x y e = absurd cc

was_err : {A : Type 0} (b : Bool) (x : A) (d : Error) → refused_or b x ≡ Err d → (b ≡ false) × (d ≡ UnexpectedEof)
was_err true x d e = absurd cc
was_err false x d e = (refl, cc)

-- what one slice's view gave
pub one_ok : (file : List ℕ) (o n : ℕ) (bytes : List ℕ) → viewed file (record { offset = o; size = n } ∷ []) ≡ Ok bytes → (o + n ≤ length file) × (bytes ≡ take n (drop o file))
one_ok file o n bytes e =
    let w = was_ok (nat_le (o + n) (length file)) (take n (drop o file)) bytes (sym (one_is file o n) ∙ e) in
    (grind (arith, nat_tests), w.1)

pub one_err : (file : List ℕ) (o n : ℕ) (d : Error) → viewed file (record { offset = o; size = n } ∷ []) ≡ Err d → (length file < o + n) × (d ≡ UnexpectedEof)
one_err file o n d e =
    let w = was_err (nat_le (o + n) (length file)) (take n (drop o file)) d (sym (one_is file o n) ∙ e) in
    (grind (arith, nat_tests), w.1)

-- ---- the front

head-short : (file : List ℕ) → length file < 52 → head_of file ≡ Err UnrecognizedFileFormat
unfolding head_of
head-short file lt = let t = lt-ltb (length file) 52 lt in rw t refl

-- the first 52 bytes have the numbers
pub head-front : (file : List ℕ) → 52 ≤ length file → head_of (take 52 file) ≡ head_of file
unfolding head_of
head-front file le =
    let n : length (take 52 file) ≡ 52 = simp length-take (omega arith) in
    let a : ltb (length (take 52 file)) 52 ≡ false = rw n refl in
    let b : ltb (length file) 52 ≡ false = le-ltb (length file) 52 le in
    let s : take 37 (take 52 file) ≡ take 37 file = take-take 37 52 file (omega arith) in
    let t : take 32 (take 52 file) ≡ take 32 file = take-take 32 52 file (omega arith) in
    let p = number-same (take 52 file) file 32 32 (λ i l. get_or-take 52 file (32 + i) 0 (omega arith)) in
    let u = number-same (take 52 file) file 40 40 (λ i l. get_or-take 52 file (40 + i) 0 (omega arith)) in
    let z = number-same (take 52 file) file 44 44 (λ i l. get_or-take 52 file (44 + i) 0 (omega arith)) in
    rw (a, b, s, t, p, u, z) refl

pub front_fails : (io : Type 0) (e : Error) (file : List ℕ) → Fails io e (viewed file (record { offset = 0; size = 52 } ∷ [])) → Fails io (as_format e) (head_of file)
front_fails io IoError file h = h
front_fails io OutOfMemory file h = tt
front_fails io UnexpectedEof file h = head-short file (omega (arith, (one_err file 0 52 _ h).0))
front_fails io e file h = let no = (one_err file 0 52 _ h).1 in absurd cc

-- ---- the list

pub list-past : (file : List ℕ) (h : Head) (count : ℕ) → div_ceil (4 * div_ceil h.directory_size h.page_size) h.page_size ≡ count → h.page_size < 52 + 4 * count → list_of file h ≡ Err UnexpectedEof
unfolding list_of
list-past file h count c lt = let t = lt-ltb h.page_size (52 + 4 * count) lt in rw (c, t) refl

list-short : (file : List ℕ) (h : Head) (count : ℕ) → div_ceil (4 * div_ceil h.directory_size h.page_size) h.page_size ≡ count → length file < 52 + 4 * count → list_of file h ≡ Err UnexpectedEof
unfolding list_of
list-short file h count c lt = let t = lt-ltb (length file) (52 + 4 * count) lt in rw (c, t, or-true) refl

pub list_fails : (io io' : Type 0) (e : Error) (file : List ℕ) (h : Head) (count : ℕ) → div_ceil (4 * div_ceil h.directory_size h.page_size) h.page_size ≡ count → (io → io')
    → Fails io e (viewed file (record { offset = 52; size = 4 * count } ∷ [])) → Fails io' e (list_of file h)
list_fails io io' IoError file h count c f p = f p
list_fails io io' OutOfMemory file h count c f p = tt
list_fails io io' UnexpectedEof file h count c f p = list-short file h count c (one_err file 52 (4 * count) _ p).0
list_fails io io' e file h count c f p = let no = (one_err file 52 (4 * count) _ p).1 in absurd cc

list-there : (file : List ℕ) (h : Head) (count : ℕ) → div_ceil (4 * div_ceil h.directory_size h.page_size) h.page_size ≡ count → 52 + 4 * count ≤ h.page_size → 52 + 4 * count ≤ length file
    → list_of file h ≡ paged file h.page_size h.pages_used (numbers file 52 count) (4 * div_ceil h.directory_size h.page_size)
unfolding list_of
list-there file h count c le there =
    let a = le-ltb h.page_size (52 + 4 * count) le in
    let b = le-ltb (length file) (52 + 4 * count) there in
    rw (c, a, b) refl

pub list_is : (file : List ℕ) (h : Head) (bytes : List ℕ) → 52 + 4 * div_ceil (4 * div_ceil h.directory_size h.page_size) h.page_size ≤ h.page_size
    → viewed file (record { offset = 52; size = 4 * div_ceil (4 * div_ceil h.directory_size h.page_size) h.page_size } ∷ []) ≡ Ok bytes
    → (list_of file h ≡ paged file h.page_size h.pages_used (numbers bytes 0 (div_ceil (4 * div_ceil h.directory_size h.page_size) h.page_size)) (4 * div_ceil h.directory_size h.page_size)) × (length bytes ≡ 4 * div_ceil (4 * div_ceil h.directory_size h.page_size) h.page_size)
list_is file h bytes le e = from_count _ refl le e
  where
    from_count : (count : ℕ) → div_ceil (4 * div_ceil h.directory_size h.page_size) h.page_size ≡ count → 52 + 4 * count ≤ h.page_size → viewed file (record { offset = 52; size = 4 * count } ∷ []) ≡ Ok bytes
        → (list_of file h ≡ paged file h.page_size h.pages_used (numbers bytes 0 count) (4 * div_ceil h.directory_size h.page_size)) × (length bytes ≡ 4 * count)
    from_count count c le e =
        let w = one_ok file 52 (4 * count) bytes e in (
          list-there file h count c le w.0 ∙ ap (λ ns. paged file h.page_size h.pages_used ns (4 * div_ceil h.directory_size h.page_size)) (sym (ap (λ bs. numbers bs 0 count) w.1 ∙ numbers-part file 52 count)),
          ap length w.1 ∙ simp length-take (omega (arith, length-drop 52 file, w.0)),
        )

pub ceil_small : (n P : ℕ) → 256 ≤ P → n < 2 ^ 32 → div_ceil n P ≤ 2 ^ 24
ceil_small n P le lt = let a = mul-le-mul_right (n / P) le in let b = mul-div-le n P in omega arith
