use Rattle.tool_symbols.specs.SymbolTexts.{symbol_line}
use Rattle.tool_fields.proofs.Results.{joined, more}
use Rattle.tool_symbols.proofs.symbol_texts.put_any_symbol.Goals as goal

pub returns : goal.returns
unfolding symbol_line
returns c =
    let i = c.in_ok-put_hex8.ensures.ok in
    let k = c.in_ok-put_kind.ensures in
    more c.put_line_end.result _ _ _ _ _ c.put_line_end.ensures.ok
    (joined _ _ _ _ _ c.in_ok-put_record.ensures
    (joined _ _ _ _ _ (rw c.raw_kind.ensures at k)
    (joined _ _ _ _ _ c.in_ok-push.ensures.items
    (joined _ _ _ _ _ (rw c.index.ensures at i) c.in_ok-put_blanks.ensures))))
