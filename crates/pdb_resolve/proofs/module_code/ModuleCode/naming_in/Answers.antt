use Rattle.std.proofs.Common.{sym}
use Rattle.pdb_code.proofs.SiteCalls.{function_listed}
use Rattle.pdb_resolve.proofs.module_code.ModuleCode.naming_in.Goals as goal

pub said-requires : goal.said-requires
said-requires c = function_listed c.args.place c.args.self.now c.in-Some-function_in.index.0 (sym c.in-Some-function_in.ensures)

pub managed_of-requires : goal.managed_of-requires
managed_of-requires c = function_listed c.args.place c.args.self.now c.in-Some-function_in.index.0 (sym c.in-Some-function_in.ensures)
