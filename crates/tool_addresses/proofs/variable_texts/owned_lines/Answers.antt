use Rattle.std.proofs.Common.{map, take}
use Rattle.pdb_variables.specs.VariableViews.{shown_variable}
use Rattle.tool_addresses.proofs.OwnedLines.{kept_more, more_shown}
use Rattle.tool_addresses.proofs.variable_texts.owned_lines.Goals as goal

pub loop-variable-preserved : goal.loop-variable-preserved
loop-variable-preserved c =
    let i = c.loop-variable.variable-index in
    let all = c.args.variables.now in
    let variable = c.variable-item.result in
    let more = more_shown shown_variable all i variable c.loop-variable-test.true c.variable-item.is in
    rw more (kept_more c.args.machine (map shown_variable (take i all)) (shown_variable variable) c.args.calls c.loop-variable.lines c.put.new.self c.loop-variable.invariant c.in_ok-put.ensures.own c.in_ok-put.ensures.calls)
