use Rattle.std.proofs.Common.{List, ℕ, ◌++◌, ap, sym, ◌∙◌}
use Rattle.tool_fields.proofs.Results.{joined}
use Rattle.tool_fields.proofs.Registers.{registers_more}
use Rattle.tool_fields.proofs.values_forms.put_more_registers.Goals as goal

pub loop-register-preserved : goal.loop-register-preserved
loop-register-preserved c =
    joined _ _ _ _ _ c.in_ok-put_behind_comma.ensures c.loop-register.invariant
    ∙ ap (λ (xs : List ℕ). c.args.out.now.items ++ xs) (sym (registers_more c.args.machine c.args.registers.now c.loop-register.register-index _ c.loop-register-test.true))
