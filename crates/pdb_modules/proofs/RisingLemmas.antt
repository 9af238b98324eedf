-- What is known of rising entries while blocks are read.
use Rattle.std.proofs.Common.{ℕ, List, Bool, arith}
use Rattle.pdb_base.specs.declared.index.PdbInternalSectionOffset.{PdbInternalSectionOffset}
use Rattle.pdb_modules.specs.Rising.{RiseAt}

-- nothing is known of no entries
pub none_rise : (p : PdbInternalSectionOffset) (columns : Bool) (b : List ℕ) (a : ℕ) → RiseAt p columns b a 0
none_rise p columns b a block e = record {
  inside = omega arith;
  begin = λ k h. absurd (omega arith);
  rise = λ j k h i. absurd (omega arith);
}
