-- Beginnings of texts behind what a buffer had.
use Rattle.std.proofs.Common.{◌≡◌, ℕ, ◌+◌, ◌/◌, ◌%◌, ◌^◌, ◌<◌, ◌≤◌, min, List, [], ◌∷◌, ◌++◌, length, take, drop, map, flat_map, Bool, false, ◌||◌, codes, refl, sym, ap, ◌∙◌, arith, append_assoc}
use Rattle.std.specs.List.{list_any}
use Rattle.std.proofs.lemmas.Grind.{common_steps, flat_map-append}
use Rattle.std.proofs.lemmas.List.{drop-take, map-append, take-append-drop, take-append-le}
use Rattle.std.proofs.Math.Seq.{take-append-add}
use Rattle.std.specs.Fmt.{decimal}
use Rattle.pdb_text.specs.Digits.{hex, four_digits}
use Rattle.pdb_text.specs.OneLine.{cut, in_line, is_control, one_line}
use Rattle.pdb_text.specs.Written.{PutFront}
use Rattle.pdb_text.proofs.Pairs.{decimal_more}

-- nothing of a text
pub front_none : (old text : List ℕ) → PutFront old old text
front_none old text = record { count = 0; is = grind (arith, common_steps) }

-- a piece of a text, and nothing of what follows it
pub front_piece : (old new a b : List ℕ) → new ≡ old ++ a → PutFront old new (a ++ b)
front_piece old new a b e =
    let whole : take (length a) (a ++ b) ≡ a = grind (arith, common_steps) in
    record { count = length a; is = rw whole e }

-- a beginning of a piece
pub front_first : (old new a b : List ℕ) → PutFront old new a → PutFront old new (a ++ b)
front_first old new a b f =
    let same : take (min f.count (length a)) a ≡ take f.count a = grind (arith, common_steps) in
    let short : take (min f.count (length a)) (a ++ b) ≡ take (min f.count (length a)) a = take-append-le _ a b (omega arith) in
    record { count = min f.count (length a); is = rw (short, same) f.is }

-- a piece of a text, and a beginning of what follows it
pub front_next : (old now new a b : List ℕ) → now ≡ old ++ a → PutFront now new b → PutFront old new (a ++ b)
front_next old now new a b e f =
    record { count = length a + f.count; is = rw take-append-add (f.is ∙ ap (λ (xs : List ℕ). xs ++ take f.count b) e ∙ append_assoc old a (take f.count b)) }

-- ---- bytes one after another

-- the digits of the first bytes
pub front_digits : (old new : List ℕ) (i : ℕ) (bytes : List ℕ) → new ≡ old ++ flat_map (hex 2) (take i bytes) → PutFront old new (flat_map (hex 2) bytes)
front_digits old new i bytes e =
    let all : flat_map (hex 2) bytes ≡ flat_map (hex 2) (take i bytes) ++ flat_map (hex 2) (drop i bytes) = ap (flat_map (hex 2)) (sym (take-append-drop i bytes)) ∙ flat_map-append (hex 2) (take i bytes) (drop i bytes) in
    rw all (front_piece old new _ _ e)

-- the first bytes on one line
pub front_line : (old new : List ℕ) (i : ℕ) (bytes : List ℕ) → new ≡ old ++ map in_line (take i bytes) → PutFront old new (map in_line bytes)
front_line old new i bytes e =
    let all : map in_line bytes ≡ map in_line (take i bytes) ++ map in_line (drop i bytes) = ap (map in_line) (sym (take-append-drop i bytes)) ∙ map-append in_line (take i bytes) (drop i bytes) in
    rw all (front_piece old new _ _ e)

-- what stands in front of an offset, and what stood behind it, cut
pub cut_behind : (old now : List ℕ) (start size : ℕ) → now ≡ take start (take (start + size) old) ++ map in_line (drop start (take (start + size) old)) → now ≡ take start old ++ map in_line (take size (drop start old))
cut_behind old now start size e =
    let front : take start (take (start + size) old) ≡ take start old = grind (arith, common_steps) in
    e ∙ rw (front, drop-take start size old) refl

-- a longer name is its beginning and three dots
long_line : (bytes : List ℕ) → 4096 < length bytes → one_line bytes ≡ map in_line (take (cut bytes) bytes) ++ codes "..."
unfolding one_line
long_line bytes more = grind (arith, common_steps)

-- the beginning of a longer name, without its dots
pub front_dots : (old new bytes : List ℕ) → 4096 < length bytes → new ≡ old ++ map in_line (take (cut bytes) bytes) → PutFront old new (one_line bytes)
front_dots old new bytes more e = rw (long_line bytes more) (front_piece old new _ (codes "...") e)

-- ---- a number of more than four digits: those of all but its last four, then these

pub number_whole : (n : ℕ) (old now new : List ℕ) → 10000 ≤ n → n < 2 ^ 64 → now ≡ old ++ decimal (n / 10000) → new ≡ now ++ four_digits (n % 10000) → new ≡ old ++ decimal n
number_whole n old now new lo hi a b =
    rw (decimal_more n lo hi, ← append_assoc, ← a) b

pub number_first : (n : ℕ) (old new : List ℕ) → 10000 ≤ n → n < 2 ^ 64 → PutFront old new (decimal (n / 10000)) → PutFront old new (decimal n)
number_first n old new lo hi f = rw (decimal_more n lo hi) (front_first old new _ _ f)

pub number_piece : (n : ℕ) (old new : List ℕ) → 10000 ≤ n → n < 2 ^ 64 → new ≡ old ++ decimal (n / 10000) → PutFront old new (decimal n)
number_piece n old new lo hi e = rw (decimal_more n lo hi) (front_piece old new _ _ e)

-- and the same behind a blank

pub field_whole : (n : ℕ) (old now new : List ℕ) → 10000 ≤ n → n < 2 ^ 64 → now ≡ old ++ (32 ∷ decimal (n / 10000)) → new ≡ now ++ four_digits (n % 10000) → new ≡ old ++ (32 ∷ decimal n)
field_whole n old now new lo hi a b =
    rw (decimal_more n lo hi, ← append_assoc old (32 ∷ decimal (n / 10000)) (four_digits (n % 10000)), ← a) b

pub field_piece : (n : ℕ) (old new : List ℕ) → 10000 ≤ n → n < 2 ^ 64 → new ≡ old ++ (32 ∷ decimal (n / 10000)) → PutFront old new (32 ∷ decimal n)
field_piece n old new lo hi e = rw (decimal_more n lo hi) (front_piece old new (32 ∷ decimal (n / 10000)) _ e)

pub field_next : (n : ℕ) (old now new : List ℕ) → now ≡ old ++ (32 ∷ []) → PutFront now new (decimal n) → PutFront old new (32 ∷ decimal n)
field_next n old now new e f = front_next old now new (32 ∷ []) (decimal n) e f

-- ---- bytes that stay as they are

neither : (a b : Bool) → false ≡ (a || b) → (a ≡ false) × (b ≡ false)
neither a b e = grind arith

pub plain_line : (bytes : List ℕ) → false ≡ list_any is_control bytes → map in_line bytes ≡ bytes
plain_line [] e = refl
plain_line (b ∷ bs) e =
    let parts = neither (is_control b) (list_any is_control bs) e in
    let rest = plain_line bs (sym parts.1) in
    rw (parts.0, rest) refl
