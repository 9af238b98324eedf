use Rattle.std.proofs.Common.{◌≡◌, ◌++◌, take}
use Rattle.pdb.specs.Data.{shown_registers}
use Rattle.tool_fields.specs.ValueTexts.{more_registers}
use Rattle.tool_fields.proofs.values_forms.put_more_registers.Given as goal

-- the registers so far were put
abbrev pub invariant-loop-register : goal.invariant-loop-register
invariant-loop-register l = l.out.items ≡ l.fn.out.items ++ more_registers l.machine (shown_registers (take l.register-index l.registers))
