use Rattle.std.proofs.Common.{sym}
use Rattle.std.proofs.lemmas.Bool.{ltb-false, ltb-true}
use Rattle.pdb_variables.specs.VariableViews.{shown_variable}
use Rattle.tool_addresses.specs.VariableTexts.{variable_line}
use Rattle.tool_addresses.proofs.OwnedLines.{put_nowhere, put_there}
use Rattle.tool_fields.proofs.Results.{on_ok}
use Rattle.tool_addresses.proofs.variable_texts.put_in_text.Goals as goal

pub returns-in-Some : goal.returns-in-Some
returns-in-Some c =
    on_ok c.put_variable.result
    (λ put. put_there (λ text. text.items) c.args.texts.now.items c.args.number c.in-Some.text.now c.put_variable.new.out (variable_line c.args.machine (shown_variable c.args.variable.now)) (ltb-true _ _ (sym c.in-Some.ensures.item.0)) c.in-Some.ensures.value put)
    c.put_variable.ensures

pub returns-in-None : goal.returns-in-None
returns-in-None c = put_nowhere (λ text. text.items) c.args.texts.now.items c.args.number (variable_line c.args.machine (shown_variable c.args.variable.now)) (ltb-false _ _ (sym c.in-None.ensures.item.0))
