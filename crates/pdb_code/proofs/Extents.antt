-- What the lines of a site cover.
use Rattle.std.proofs.Common.{◌≡◌, ◌<◌, ◌^◌, true, List}
use Rattle.pdb.specs.PdbInternalSectionOffset.{PdbInternalSectionOffset}
use Rattle.pdb.specs.LineInfo.{LineInfo}
use Rattle.pdb_code.specs.declared.site.Extent.{Extent}
use Rattle.pdb_code.specs.ModuleCode.{first_line}
use Rattle.pdb_code.specs.Listed.{outside}

-- outside of `e` the lines `rs` have what those that are left have
pub record IsPassedOutside (all left : List LineInfo) (e : Extent) : Type 0 where
  pub same : (q : PdbInternalSectionOffset) → q.offset < 2 ^ 32 → outside q e ≡ true → first_line q all ≡ first_line q left
