use Rattle.tool_fields.proofs.Results.{if_ok, on_ok}
use Rattle.tool_output.proofs.Refused.{refused_is}
use Rattle.tool_symbols.proofs.scope_texts.put_line.Goals as goal

pub returns-in-Err-clause-line : goal.returns-in-Err-clause-line
returns-in-Err-clause-line c =
    on_ok c.put_unread.result (λ h. (
    let r = refused_is c.in-Err.e _ c.in-Err.ensures.reads h.0 in
    let t = h.1 in
    rw r t
    )) c.put_unread.ensures.line

pub returns-in-Err-clause-variable : goal.returns-in-Err-clause-variable
returns-in-Err-clause-variable c =
    if_ok c.put_unread.result (λ v h. (
    let r = refused_is c.in-Err.e _ c.in-Err.ensures.reads h.0 in
    let t = h.1 in
    rw r t
    )) c.put_unread.ensures.variable
