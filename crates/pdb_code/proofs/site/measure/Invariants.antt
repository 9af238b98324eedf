use Rattle.std.proofs.Common.{◌≡◌, map}
use Rattle.pdb.specs.Inlinees.{inlinee_with}
use Rattle.pdb_code.specs.Listed.{entry_of, AreBounded}
use Rattle.pdb_code.proofs.site.measure.Given as goal

-- the sites stay, and each has no call outside of what it covers
abbrev pub invariant-loop-i : goal.invariant-loop-i
invariant-loop-i l = record {
  same : map entry_of l.sites.items ≡ map entry_of l.fn.sites.items;
  bounded : AreBounded (inlinee_with l.known) l.sites.items;
}
