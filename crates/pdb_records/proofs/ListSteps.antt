-- One turn of an iterator over a lent list.
use Rattle.std.proofs.Common.{◌≡◌, ℕ, ◌-◌, ◌*◌, ◌/◌, ◌≤◌, List, length, arith}
use Rattle.std.proofs.lemmas.List.FromFn.{length-map-range_with_len}
use Rattle.pdb_records.specs.RecordLists.{items_from}

pub items_count : {A : Type 0} (w : ℕ) (item : List ℕ → ℕ → A) (b : List ℕ) (k : ℕ) → length (items_from w item b k) ≡ length b / w - k
items_count w item b k = length-map-range_with_len (λ i. item b (w * i)) k (length b / w - k)

-- items of four bytes are no more than a quarter of the bytes
pub items_few : {A : Type 0} (item : List ℕ → ℕ → A) (b : List ℕ) (k : ℕ) → length (items_from 4 item b k) ≤ length b / 4
items_few item b k = let n = items_count 4 item b k in omega arith

pub items_all : {A : Type 0} (item : List ℕ → ℕ → A) (b : List ℕ) → length b / 4 ≡ length (items_from 4 item b 0)
items_all item b = let n = items_count 4 item b 0 in omega arith

-- items of eight bytes
pub eights_few : {A : Type 0} (item : List ℕ → ℕ → A) (b : List ℕ) (k : ℕ) → length (items_from 8 item b k) ≤ length b / 8
eights_few item b k = let n = items_count 8 item b k in omega arith

pub eights_all : {A : Type 0} (item : List ℕ → ℕ → A) (b : List ℕ) → length b / 8 ≡ length (items_from 8 item b 0)
eights_all item b = let n = items_count 8 item b 0 in omega arith
