-- The turns of the loop over section headers.
use Rattle.std.proofs.Common.{◌≡◌, ℕ, ◌≤◌, ◌<◌, List, [], ◌∷◌, ◌++◌, length, Option, Some, None, Result, Ok, Err, refl, sym, ap, ◌∙◌, arith, append_assoc}
use Rattle.std.proofs.lemmas.Bool.Decides.{nat_tests}
use Rattle.pdb_base.specs.declared.error.Error.{Error}
use Rattle.pdb_base.specs.declared.section_header.ImageSectionHeader.{ImageSectionHeader}
use Rattle.pdb_base.specs.Refusal.{◌>>=◌}
use Rattle.pdb_base.specs.Cursor.{Cursor, Reads}
use Rattle.pdb_base.specs.Left.{Left, Follows, whole, all_or}
use Rattle.pdb_base.specs.Tiling.{listing}
use Rattle.pdb_base.specs.SectionHeader.{header_at, headers, headers_of}
use Rattle.pdb_base.proofs.Readings.{ReadsInside, read_item, read_fault, read_end, read_moves}

-- items that were read before those of a reading
abbrev pub with_front : {A : Type 0} → List A → Result (List A) Error → Result (List A) Error
with_front xs r = r >>= λ ys. Ok (xs ++ ys)

-- the headers from a place on, taken whole
unfoldable pub headers_from : List ℕ → ℕ → Result (List ImageSectionHeader) Error
headers_from b p = whole (listing headers b p)

pub from_start : (b : List ℕ) → headers_of b ≡ headers_from b 0
unfolding headers_of headers_from
from_start b = refl

headers_within : ReadsInside header_at (λ p h. 40)
unfolding header_at
headers_within = record { inside = λ b p h e. grind (arith, nat_tests) }

front_more : {A : Type 0} (xs : List A) (x : A) (r : Result (List A) Error) → with_front xs (with_front (x ∷ []) r) ≡ with_front (xs ++ x ∷ []) r
front_more xs x (Ok ys) = ap Ok (sym (append_assoc xs (x ∷ []) ys))
front_more xs x (Err e) = refl

whole_follows : {A : Type 0} (old new : Left A) (x : A) → Follows old (x ∷ []) new → whole old ≡ with_front (x ∷ []) (whole new)
whole_follows old new x f = rw (f.0, f.1) (by_fault new.fault)
  where
    by_fault : (o : Option Error) → all_or (x ∷ [] ++ new.items) o ≡ with_front (x ∷ []) (all_or new.items o)
    by_fault None = refl
    by_fault (Some e) = refl

-- one more header was read
pub one_header : (xs : List ImageSectionHeader) (old new : Cursor) (h : ImageSectionHeader) → Reads (λ x. x) old new (Ok h) (header_at old.bytes old.place) (λ _. 40)
    → with_front xs (headers_from old.bytes old.place) ≡ with_front (xs ++ h ∷ []) (headers_from new.bytes new.place)
unfolding headers_from
one_header xs old new h reads =
    let follows = read_item header_at (λ p h. 40) headers_within (λ x. x) (listing headers old.bytes old.place) old new refl h reads in
    ap (with_front xs) (whole_follows (listing headers old.bytes old.place) (listing headers new.bytes new.place) h follows)
    ∙ front_more xs h (whole (listing headers new.bytes new.place))

-- a header wasn't there
pub no_header : (xs : List ImageSectionHeader) (old new : Cursor) (e : Error) → old.place < length old.bytes → Reads {A = ImageSectionHeader} (λ x. x) old new (Err e) (header_at old.bytes old.place) (λ _. 40)
    → with_front xs (headers_from old.bytes old.place) ≡ Err e
unfolding headers_from
no_header xs old new e before reads =
    let ends = read_fault header_at (λ p h. 40) headers_within (λ x. x) (listing headers old.bytes old.place) old new refl e new.bytes (length new.bytes) before reads refl (omega arith) in
    rw (ends.0, ends.1) refl

-- no header is left
pub last_header : (xs : List ImageSectionHeader) (b : List ℕ) (p : ℕ) → length b ≤ p → with_front xs (headers_from b p) ≡ Ok (xs ++ [])
unfolding headers_from
last_header xs b p past =
    let at : Cursor = record { bytes = b; place = p } in
    let ends = read_end header_at (λ p h. 40) headers_within {X = ImageSectionHeader} (λ x. x) (listing headers b p) at at refl past in
    rw (ends.0, ends.1) refl

pub nothing_before : {A : Type 0} (r : Result (List A) Error) → r ≡ with_front [] r
nothing_before (Ok xs) = refl
nothing_before (Err e) = refl

-- a header lies inside the bytes
pub header_moves : (old new : Cursor) (h : ImageSectionHeader) → Reads (λ x. x) old new (Ok h) (header_at old.bytes old.place) (λ _. 40) → (old.place < new.place) × (new.place ≤ length new.bytes)
header_moves old new h reads = read_moves header_at (λ p h. 40) headers_within (λ x. x) old new h reads
