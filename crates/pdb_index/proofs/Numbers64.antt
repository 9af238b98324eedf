-- A number of eight bytes by its halves.
use Rattle.std.proofs.Common.{◌≡◌, ℕ, ◌+◌, ◌*◌, List, arith}
use Rattle.pdb_base.specs.Fields.{number}

pub number_8_of_4 : (b : List ℕ) (p : ℕ) → number b p 8 ≡ number b p 4 + number b (p + 4) 4 * 0x100000000
unfolding number
number_8_of_4 b p = grind arith
