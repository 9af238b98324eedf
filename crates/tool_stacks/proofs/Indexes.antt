-- The index of the first element that passes a test, in a list that is seen by another one.
use Rattle.std.proofs.Common.{◌≡◌, ◌<◌, ℕ, List, [], ◌∷◌, ◌+◌, Bool, not, if◌then◌else◌, length, map, refl, ap, sym, ◌∙◌, Option, Some, None, get_or}
use Rattle.std.proofs.lemmas.List.{get_or-map, length-map, map-set}
use Rattle.std.specs.Prelude.{position, set}
use Rattle.std.specs.List.{prefix_len}
use Rattle.tool_stacks.specs.Missing.{counted, counted_at, first, index_in, is_named, missing_of, more}
use Rattle.tool_stacks.specs.declared.missing.MissingPdb.{MissingPdb}

prefix_len_map : {X Y : Type 0} (p : Y → Bool) (f : X → Y) (xs : List X) → prefix_len p (map f xs) ≡ prefix_len (λ x. p (f x)) xs
prefix_len_map p f [] = refl
prefix_len_map p f (x ∷ xs) = ap (λ n. if p (f x) then 1 + n else 0) (prefix_len_map p f xs)

position_map : {X Y : Type 0} (p : Y → Bool) (f : X → Y) (xs : List X) → position p (map f xs) ≡ position (λ x. p (f x)) xs
position_map p f xs = rw (prefix_len_map (λ y. not (p y)) f xs, length-map xs f) refl

-- by the index of the name
by_index : (name : List ℕ) (ms : List MissingPdb) (found : Option ℕ) → found ≡ index_in name ms
    → counted name (map missing_of ms) ≡ counted_at name (map missing_of ms) found
unfolding index_in
by_index name ms found e = ap (counted_at name (map missing_of ms)) (position_map (is_named name) missing_of ms ∙ sym e)

-- no element has the name
pub uncounted : (name : List ℕ) (ms : List MissingPdb) → None ≡ index_in name ms
    → counted name (map missing_of ms) ≡ counted_at name (map missing_of ms) None
uncounted name ms e = by_index name ms None e

-- one more at the index of the name
pub counted_one : (name : List ℕ) (ms : List MissingPdb) (i : ℕ) (m n : MissingPdb) → i < length ms → Some i ≡ index_in name ms
    → m ≡ get_or ms i m → missing_of n ≡ more (missing_of m) → map missing_of (set ms i n) ≡ counted name (map missing_of ms)
counted_one name ms i m n h e value one =
    map-set missing_of ms i n
    ∙ ap (set (map missing_of ms) i) (one ∙ ap more (ap missing_of value ∙ sym (get_or-map missing_of ms i m (first name) h)))
    ∙ sym (by_index name ms (Some i) e)
