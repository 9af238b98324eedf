-- How a listing begins, and that it is the list of its definition.
use Rattle.std.proofs.Common.{◌≡◌, ℕ, zero, suc, ◌+◌, ◌-◌, ◌<◌, ◌≤◌, Bool, cond, List, [], ◌∷◌, length, Option, Some, None, Ok, Err, refl, sym, ap, ◌∙◌, subst, arith}
use Rattle.std.proofs.lemmas.Bool.{le-ltb, lt-ltb}
use Rattle.std.specs.List.{cons_option}
use Rattle.std.specs.Option.{option_map_or}
use Rattle.pdb_base.specs.declared.error.Error.{Error}
use Rattle.pdb_base.specs.Left.{Left, Follows, Ends, ended}
use Rattle.pdb_base.specs.Tiling.{Row, IsInside, Tiles, IsListing, items_of, fault_at, tiles, end_of, tiling, listing, ReadsPiece}

-- an item before what is left, where there is one
abbrev pub behind : {A : Type 0} → Option A → Left A → Left A
behind o left = record { items = cons_option o left.items; fault = left.fault }

-- two turns that agree at each piece
turn : {T : Type 0} (o : Option ℕ) (f g : ℕ → List T) → ((k : ℕ) → o ≡ Some k → f k ≡ g k) → option_map_or f o [] ≡ option_map_or g o []
turn None f g h = refl
turn (Some k) f g h = h k refl

-- no piece
no_turn : {T : Type 0} (o : Option ℕ) (f : ℕ → List T) → ((k : ℕ) → o ≡ Some k → ⊥) → option_map_or f o [] ≡ []
no_turn None f h = refl
no_turn (Some k) f h = absurd (h k refl)

-- a list of at most n items gains one
one_more : {A : Type 0} (o : Option A) (xs : List A) (n : ℕ) → length xs ≤ n → length (cons_option o xs) ≤ suc n
one_more None xs n h = omega arith
one_more (Some x) xs n h = omega arith

-- at most n pieces make at most n items
few_of : {A : Type 0} (row : Row A) (b : List ℕ) (n p : ℕ) → length (items_of row b (tiles row b n p)) ≤ n
few_of row b zero p = omega arith
few_of row b (suc n) p =
    let rest = λ (k : ℕ). tiles row b n (p + k) in
    elim (row.piece b p) as (λ (o : Option ℕ). length (items_of row b (option_map_or (λ k. (p, k) ∷ rest k) o [])) ≤ suc n)
    [ None ↦ omega arith | Some k ↦ one_more (row.item b p k) (items_of row b (rest k)) n (few_of row b n (p + k)) ]

pub few : {A : Type 0} (row : Row A) (b : List ℕ) (p : ℕ) → length (listing row b p).items ≤ length b - p
unfolding listing tiling
few row b p = few_of row b (length b - p) p

-- a count of pieces that is enough is as good as another
enough : {A : Type 0} (row : Row A) → IsInside row → (b : List ℕ) (n m p : ℕ) → length b ≤ p + n → length b ≤ p + m → tiles row b n p ≡ tiles row b m p
enough row r b zero zero p h i = refl
enough row r b zero (suc m) p h i = sym (no_turn (row.piece b p) (λ k. (p, k) ∷ tiles row b m (p + k)) (λ k e. let in_b = r.inside b p k e in omega arith))
enough row r b (suc n) zero p h i = no_turn (row.piece b p) (λ k. (p, k) ∷ tiles row b n (p + k)) (λ k e. let in_b = r.inside b p k e in omega arith)
enough row r b (suc n) (suc m) p h i = turn (row.piece b p) (λ k. (p, k) ∷ tiles row b n (p + k)) (λ k. (p, k) ∷ tiles row b m (p + k)) (λ k e. let in_b = r.inside b p k e in ap (λ (ts : List (ℕ × ℕ)). (p, k) ∷ ts) (enough row r b n m (p + k) (omega arith) (omega arith)))

-- the first piece, and those after it
pub tiling_piece : {A : Type 0} (row : Row A) → IsInside row → (b : List ℕ) (p k : ℕ) → row.piece b p ≡ Some k → tiling row b p ≡ (p, k) ∷ tiling row b (p + k)
unfolding tiling
tiling_piece row r b p k e =
    let in_b = r.inside b p k e in
    enough row r b (length b - p) (suc (length b - p)) p (omega arith) (omega arith)
    ∙ (ap (λ (o : Option ℕ). option_map_or (λ k. (p, k) ∷ tiles row b (length b - p) (p + k)) o []) e
    ∙ ap (λ (ts : List (ℕ × ℕ)). (p, k) ∷ ts) (enough row r b (length b - p) (length b - (p + k)) (p + k) (omega arith) (omega arith)))

no_tiles : {A : Type 0} (row : Row A) (b : List ℕ) (n p : ℕ) → row.piece b p ≡ None → tiles row b n p ≡ []
no_tiles row b zero p e = refl
no_tiles row b (suc n) p e = ap (λ (o : Option ℕ). option_map_or (λ k. (p, k) ∷ tiles row b n (p + k)) o []) e

-- no piece
pub tiling_stop : {A : Type 0} (row : Row A) (b : List ℕ) (p : ℕ) → row.piece b p ≡ None → tiling row b p ≡ []
unfolding tiling
tiling_stop row b p e = no_tiles row b (length b - p) p e

-- what the pieces from p make
abbrev made : {A : Type 0} → Row A → List ℕ → ℕ → List (ℕ × ℕ) → Left A
made row b p ts = record { items = items_of row b ts; fault = fault_at row b (end_of p ts) }

-- ---- how a listing begins

-- with what the first piece makes
pub listing_piece : {A : Type 0} (row : Row A) → IsInside row → (b : List ℕ) (p k : ℕ) → row.piece b p ≡ Some k → listing row b p ≡ behind (row.item b p k) (listing row b (p + k))
unfolding listing
listing_piece row r b p k e = ap (made row b p) (tiling_piece row r b p k e)

-- with the fault, where no piece begins
pub listing_stop : {A : Type 0} (row : Row A) (b : List ℕ) (p : ℕ) → row.piece b p ≡ None → listing row b p ≡ record { items = []; fault = fault_at row b p }
unfolding listing
listing_stop row b p e = ap (made row b p) (tiling_stop row b p e)

-- at the end
pub listing_end : {A : Type 0} (row : Row A) (b : List ℕ) (p : ℕ) → length b ≤ p → listing row b p ≡ ended
unfolding listing tiling
listing_end row b p h =
    let none : length b - p ≡ 0 = omega arith in
    ap (λ (n : ℕ). made row b p (tiles row b n p)) none ∙ ap (λ (t : Bool). record { items = []; fault = cond t (row.fault b p) None }) (le-ltb p (length b) h)

-- an item comes first, and then what is behind its piece
pub listing_item : {A : Type 0} (row : Row A) → IsInside row → (b : List ℕ) (p k : ℕ) (x : A) → row.piece b p ≡ Some k → row.item b p k ≡ Some x → Follows (listing row b p) (x ∷ []) (listing row b (p + k))
listing_item row r b p k x e f =
    let begins = listing_piece row r b p k e ∙ ap (λ (o : Option _). behind o (listing row b (p + k))) f in
    (ap (λ (l : Left _). l.items) begins, ap (λ (l : Left _). l.fault) begins)

-- a piece that makes no item is passed over
pub listing_padding : {A : Type 0} (row : Row A) → IsInside row → (b : List ℕ) (p k : ℕ) → row.piece b p ≡ Some k → row.item b p k ≡ None → listing row b p ≡ listing row b (p + k)
listing_padding row r b p k e f = listing_piece row r b p k e ∙ ap (λ (o : Option _). behind o (listing row b (p + k))) f

-- ---- the listing is the one of the definition

only_tiles : {A : Type 0} (row : Row A) → IsInside row → (b : List ℕ) (p : ℕ) (ts : List (ℕ × ℕ)) (q : ℕ) → Tiles row b p ts q → row.piece b q ≡ None → (tiling row b p ≡ ts) × (end_of p ts ≡ q)
only_tiles row r b p [] q t s = (tiling_stop row b p (ap (row.piece b) t ∙ s), t)
only_tiles row r b p (x ∷ ts) q t s =
    let rest = only_tiles row r b (p + x.1) ts q t.2 s in
    (tiling_piece row r b p x.1 t.1 ∙ (ap (λ (us : List (ℕ × ℕ)). (p, x.1) ∷ us) rest.0 ∙ ap (λ (n : ℕ). (n, x.1) ∷ ts) (sym t.0)), rest.1)

-- a listing by the definition is the one that is computed
pub only_listing : {A : Type 0} (row : Row A) → IsInside row → (b : List ℕ) (p : ℕ) (left : Left A) → IsListing row b p left → left ≡ listing row b p
unfolding listing
only_listing row r b p left is =
    let only = only_tiles row r b p is.pieces is.stop is.tiling.tiles is.tiling.stops in
    let items = is.items ∙ ap (λ (ts : List (ℕ × ℕ)). items_of row b ts) (sym only.0) in
    let fault = is.fault ∙ (ap (fault_at row b) (sym only.1) ∙ ap (λ (ts : List (ℕ × ℕ)). fault_at row b (end_of p ts)) (sym only.0)) in
    λ i. record { items = items i; fault = fault i }

-- some pieces from p, and none after them
abbrev Tiled : {A : Type 0} → Row A → List ℕ → ℕ → Type 0
Tiled row b p = (ts : List (ℕ × ℕ)) × (q : ℕ) × Tiles row b p ts q × (row.piece b q ≡ None)

by_turn : {A : Type 0} (row : Row A) (b : List ℕ) (p : ℕ) (o : Option ℕ) → row.piece b p ≡ o → ((k : ℕ) → row.piece b p ≡ Some k → Tiled row b (p + k)) → Tiled row b p
by_turn row b p None e more = ([], p, refl, e)
by_turn row b p (Some k) e more = let rest = more k e in ((p, k) ∷ rest.0, rest.1, (refl, e, rest.2), rest.3)

tiled : {A : Type 0} (row : Row A) → IsInside row → (b : List ℕ) (n p : ℕ) → length b ≤ p + n → Tiled row b p
tiled row r b zero p h = by_turn row b p (row.piece b p) refl (λ k e. let in_b = r.inside b p k e in absurd (omega arith))
tiled row r b (suc n) p h = by_turn row b p (row.piece b p) refl (λ k e. let in_b = r.inside b p k e in tiled row r b n (p + k) (omega arith))

-- and it is one
pub is_listing : {A : Type 0} (row : Row A) → IsInside row → (b : List ℕ) (p : ℕ) → IsListing row b p (listing row b p)
unfolding listing
is_listing row r b p =
    let t = tiled row r b (length b) p (omega arith) in
    let only = only_tiles row r b p t.0 t.1 t.2 t.3 in
    record {
      pieces = t.0;
      stop = t.1;
      tiling = record { tiles = t.2; stops = t.3 };
      items = ap (λ (ts : List (ℕ × ℕ)). items_of row b ts) only.0;
      fault = ap (λ (ts : List (ℕ × ℕ)). fault_at row b (end_of p ts)) only.0 ∙ ap (fault_at row b) only.1;
    }

-- ---- what the reading of one piece shows of the listing

-- the item is the first of those left
pub gives_item : {X A : Type 0} (row : Row A) → IsInside row → (shown : X → A) (b : List ℕ) (p : ℕ) (x : X) (q : ℕ) → ReadsPiece row shown b p (Ok (Some x)) q → Follows (listing row b p) (shown x ∷ []) (listing row b q)
gives_item row r shown b p x q reads =
    let back : p + (q - p) ≡ q = let h = reads.0 in omega arith in
    let first = listing_item row r b p (q - p) (shown x) reads.2 reads.3 in
    subst (λ (n : ℕ). Follows (listing row b p) (shown x ∷ []) (listing row b n)) back first

-- padding is passed over
pub passes_padding : {X A : Type 0} (row : Row A) → IsInside row → (shown : X → A) (b : List ℕ) (p q : ℕ) → ReadsPiece row shown b p (Ok None) q → listing row b p ≡ listing row b q
passes_padding row r shown b p q reads =
    let back : p + (q - p) ≡ q = let h = reads.0 in omega arith in
    listing_padding row r b p (q - p) reads.2 reads.3 ∙ ap (listing row b) back

-- nothing is left but the fault
pub gives_fault : {X A : Type 0} (row : Row A) (shown : X → A) (b : List ℕ) (p : ℕ) (e : Error) (q : ℕ) → p < length b → ReadsPiece row shown b p (Err e) q → listing row b p ≡ record { items = []; fault = Some e }
gives_fault row shown b p e q h reads =
    let stops = listing_stop row b p reads.0 in
    let there = ap (λ (t : Bool). cond t (row.fault b p) None) (lt-ltb p (length b) h) ∙ reads.1 in
    stops ∙ ap (λ (f : Option Error). record { items = []; fault = f }) there

-- ---- the turns of a loop over pieces, which began at `start`

module _ {X A : Type 0} (row : Row A) (r : IsInside row) (shown : X → A) (start : Left A) (b b' : List ℕ) (p : ℕ) (here : start ≡ listing row b p) where
  pub then_item : (x : X) (q : ℕ) → b' ≡ b → ReadsPiece row shown b p (Ok (Some x)) q → Follows start (shown x ∷ []) (listing row b' q)
  then_item x q same reads = rw (here, same) (gives_item row r shown b p x q reads)

  pub then_padding : (q : ℕ) → b' ≡ b → ReadsPiece row shown b p (Ok None) q → start ≡ listing row b' q
  then_padding q same reads = here ∙ (passes_padding row r shown b p q reads ∙ ap (λ (s : List ℕ). listing row s q) (sym same))

  pub then_fault : (e : Error) (q q' : ℕ) → b' ≡ b → p < length b → ReadsPiece row shown b p (Err e) q → length b' ≤ q' → Ends start [] (Some e) (listing row b' q')
  then_fault e q q' same before reads past =
      let left = here ∙ gives_fault row shown b p e q before reads in
      (ap (λ (l : Left _). l.items) left, ap (λ (l : Left _). l.fault) left, listing_end row b' q' past)

  pub then_end : length b ≤ p → Ends start [] None (listing row b p)
  then_end past =
      let left = here ∙ listing_end row b p past in
      (ap (λ (l : Left _). l.items) left, ap (λ (l : Left _). l.fault) left, listing_end row b p past)
