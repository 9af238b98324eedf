use Rattle.std.proofs.Common.{sym, subst}
use Rattle.pdb_code.specs.Kept.{AreRising}
use Rattle.pdb_code.proofs.SiteCalls.{sites_rise}
use Rattle.pdb_resolve.proofs.module_code.ModuleCode.measure.Goals as goal

pub count_upto-from-requires : goal.count_upto-from-requires
count_upto-from-requires c = subst AreRising (sym c.as_slice.ensures.value) (sites_rise c.self.inside.info.now c.self.inside.sites.items c.self.invariant.4)
