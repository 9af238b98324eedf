use Rattle.std.proofs.Common.{◌≡◌, length}
use Rattle.pdb.specs.Views.{symbols_left}
use Rattle.tool_fields.specs.ModuleMachines.{module_machine}
use Rattle.tool_fields.proofs.module_machine.machine_of_module.Given as goal

-- no symbol so far named a machine
abbrev pub invariant-loop-symbol : goal.invariant-loop-symbol
invariant-loop-symbol l = module_machine l.header (symbols_left l.symbols).items ≡ module_machine l.header (symbols_left l.fn.symbols).items

abbrev pub decreases-loop-symbol : goal.decreases-loop-symbol
decreases-loop-symbol l = length (symbols_left l.symbols).items
