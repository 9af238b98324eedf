-- Bytes as pieces that stand one after another, and the list of items that they make.
use Rattle.std.specs.Prelude.{◌≡◌, ℕ, zero, suc, ◌+◌, ◌-◌, ◌<◌, ◌≤◌, nat_lt, if◌then◌else◌, List, [], ◌∷◌, length, Option, Some, None, Result, Ok, Err, option_map}
use Rattle.std.specs.List.{filter_map}
use Rattle.std.specs.Option.{option_map_or}
use Rattle.pdb_base.specs.declared.error.Error.{Error}
use Rattle.pdb_base.specs.Left.{Left}

-- a kind of list: how long the piece is that begins at a place, if one does; the item that the piece of a length at a place makes, if it makes one; what is wrong at a place where none begins
pub record Row (A : Type 0) : Type 0 where
  pub piece : List ℕ → ℕ → Option ℕ
  pub item : List ℕ → ℕ → ℕ → Option A
  pub fault : List ℕ → ℕ → Option Error

-- no piece is empty, and each lies inside the bytes
pub record IsInside {A : Type 0} (row : Row A) : Type 0 where
  pub inside : (b : List ℕ) (p k : ℕ) → row.piece b p ≡ Some k → (0 < k) × (p + k ≤ length b)

-- ---- the definition by places

-- the pieces (place, length) stand one after another from p to q
abbrev pub Tiles : {A : Type 0} → Row A → List ℕ → ℕ → List (ℕ × ℕ) → ℕ → Type 0
Tiles row b p [] q = p ≡ q
Tiles row b p (t ∷ ts) q = (t.0 ≡ p) × (row.piece b p ≡ Some t.1) × Tiles row b (p + t.1) ts q

-- they do, and the list can't be lengthened
pub record IsTiling {A : Type 0} (row : Row A) (b : List ℕ) (p : ℕ) (ts : List (ℕ × ℕ)) (q : ℕ) : Type 0 where
  pub tiles : Tiles row b p ts q
  pub stops : row.piece b q ≡ None

-- what the pieces make
abbrev pub items_of : {A : Type 0} → Row A → List ℕ → List (ℕ × ℕ) → List A
items_of row b ts = filter_map (λ t. row.item b t.0 t.1) ts

-- what is wrong at q, where no piece begins: nothing at the end
abbrev pub fault_at : {A : Type 0} → Row A → List ℕ → ℕ → Option Error
fault_at row b q = if nat_lt q (length b) then row.fault b q else None

-- the items of the pieces from p, and then the fault at the place where they stop
pub record IsListing {A : Type 0} (row : Row A) (b : List ℕ) (p : ℕ) (left : Left A) : Type 0 where
  pub pieces : List (ℕ × ℕ)
  pub stop : ℕ
  pub tiling : IsTiling row b p pieces stop
  pub items : left.items ≡ items_of row b pieces
  pub fault : left.fault ≡ fault_at row b stop

-- ---- the list, computed

-- at most n pieces from p
abbrev pub tiles : {A : Type 0} → Row A → List ℕ → ℕ → ℕ → List (ℕ × ℕ)
tiles row b zero p = []
tiles row b (suc n) p = option_map_or (λ k. (p, k) ∷ tiles row b n (p + k)) (row.piece b p) []

-- where pieces from p end
abbrev pub end_of : ℕ → List (ℕ × ℕ) → ℕ
end_of p [] = p
end_of p (t ∷ ts) = end_of (p + t.1) ts

-- all pieces from p: there are no more of them than bytes
unfoldable pub tiling : {A : Type 0} → Row A → List ℕ → ℕ → List (ℕ × ℕ)
tiling row b p = tiles row b (length b - p) p

unfoldable pub listing : {A : Type 0} → Row A → List ℕ → ℕ → Left A
listing row b p = record { items = items_of row b (tiling row b p); fault = fault_at row b (end_of p (tiling row b p)) }

-- ---- what the code of one piece owes

-- reading at p gave what the piece there makes, and passed it; or told the fault, where no piece begins
abbrev pub ReadsPiece : {X A : Type 0} → Row A → (X → A) → List ℕ → ℕ → Result (Option X) Error → ℕ → Type 0
ReadsPiece row shown b p (Ok x) q = (p < q) × (q ≤ length b) × (row.piece b p ≡ Some (q - p)) × (row.item b p (q - p) ≡ option_map shown x)
ReadsPiece row shown b p (Err e) q = (row.piece b p ≡ None) × (row.fault b p ≡ Some e)
