-- The first of some numbers that passes a test, one after another; a number of eight bytes by its halves.
use Rattle.std.proofs.Common.{◌≡◌, ℕ, suc, ◌+◌, ◌-◌, ◌*◌, ◌<◌, ◌≤◌, Bool, List, Some, None, refl, arith, cond}
use Rattle.std.specs.List.{find, range_with_len}
use Rattle.pdb_base.specs.Fields.{number}

pub number_8_of_4 : (b : List ℕ) (p : ℕ) → number b p 8 ≡ number b p 4 + number b (p + 4) 4 * 0x100000000
unfolding number
number_8_of_4 b p = grind arith

pub find_step : (p : ℕ → Bool) (i n : ℕ) → i < n → find p (range_with_len i (n - i)) ≡ cond (p i) (Some i) (find p (range_with_len (i + 1) (n - (i + 1))))
find_step p i n lt =
    let e : n - i ≡ suc (n - (i + 1)) = omega arith in
    rw e refl

pub find_end : (p : ℕ → Bool) (i n : ℕ) → n ≤ i → find p (range_with_len i (n - i)) ≡ None
find_end p i n le = let e : n - i ≡ 0 = omega arith in rw e refl
