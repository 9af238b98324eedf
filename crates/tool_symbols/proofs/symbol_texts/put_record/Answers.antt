use Rattle.tool_fields.proofs.Results.{on_ok}
use Rattle.tool_output.proofs.Refused.{refused_is}
use Rattle.tool_symbols.proofs.symbol_texts.put_record.Goals as goal

-- piece: refused
pub returns-in-Err : goal.returns-in-Err
returns-in-Err c =
    on_ok c.put_unparsed.result (λ h. (
    let r = refused_is c.in-Err.e _ c.in-Err.ensures.reads h.0 in
    let t = h.1 in
    rw r t
    )) c.put_unparsed.ensures

-- end
