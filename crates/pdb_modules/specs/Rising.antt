-- Entries of a block that are no markers and whose offsets never fall.
use Rattle.std.specs.Prelude.{◌≡◌, ℕ, ◌<◌, ◌≤◌, Bool, false, List, Ok}
use Rattle.pdb_base.specs.declared.index.PdbInternalSectionOffset.{PdbInternalSectionOffset}
use Rattle.pdb_modules.specs.Blocks.{LineBlock, block_at, entry_of}
use Rattle.pdb_modules.specs.Lines.{behind, is_marker}

-- the offset at which entry k of a block stands, in a subsection that begins at p
abbrev pub offset_of : PdbInternalSectionOffset → Bool → LineBlock → ℕ → ℕ
offset_of p columns block k = (behind p (entry_of columns block k).offset).offset

-- the first n entries of a block are there, are no markers, and stand at offsets that never fall
pub record AreRising (p : PdbInternalSectionOffset) (columns : Bool) (block : LineBlock) (n : ℕ) : Type 0 where
  pub inside : n ≤ block.count
  pub begin : (k : ℕ) → k < n → is_marker (entry_of columns block k).line.flags ≡ false
  pub rise : (j k : ℕ) → j ≤ k → k < n → offset_of p columns block j ≤ offset_of p columns block k

-- so are those of the block at a, if one is there
abbrev pub RiseAt : PdbInternalSectionOffset → Bool → List ℕ → ℕ → ℕ → Type 0
RiseAt p columns b a n = (block : LineBlock) → block_at columns b a ≡ Ok block → AreRising p columns block n
