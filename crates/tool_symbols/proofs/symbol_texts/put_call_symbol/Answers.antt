use Rattle.pdb.specs.Views.{symbol_of}
use Rattle.tool_types.specs.KeptViews.{kept_names}
use Rattle.tool_symbols.proofs.OffsetLines.{call_line}
use Rattle.tool_fields.proofs.Results.{more}
use Rattle.tool_symbols.proofs.symbol_texts.put_call_symbol.Goals as goal

pub returns-clause-line : goal.returns-clause-line
returns-clause-line c =
    let same = c.raw_bytes-bytes.ensures in
    let long = rw same at c.if-bytes-lt14.false in
    let within = rw (c.u32_at.ensures, same) at c.if-u32_at-eq0.false in
    let line = call_line (kept_names c.args.kept.now) c.args.machine c.args.depth (symbol_of c.args.symbol.now) c.requires long within in
    let put = c.put_call_text.ensures.text in
    rw line (more c.put_call_text.result _ _ _ _ _ (rw (c.index.ensures, same) at put) c.in_ok-put_blanks.ensures)
