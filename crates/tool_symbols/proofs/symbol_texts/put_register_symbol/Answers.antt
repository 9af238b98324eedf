use Rattle.pdb.specs.Views.{symbol_of}
use Rattle.tool_types.specs.LineViews.{names_of_lines}
use Rattle.tool_symbols.proofs.OffsetLines.{register_line}
use Rattle.tool_fields.proofs.Results.{more}
use Rattle.tool_symbols.proofs.symbol_texts.put_register_symbol.Goals as goal

pub returns : goal.returns
returns c =
    let same = c.raw_bytes-bytes.ensures in
    let long = rw same at c.if-bytes-lt14.false in
    let line = register_line (names_of_lines c.args.names) c.args.machine c.args.depth (symbol_of c.args.symbol.now) c.requires long in
    let put = c.put_register_range.ensures in
    rw line (more c.put_register_range.result _ _ _ _ _ (rw (c.index.ensures, same) at put) c.in_ok-put_blanks.ensures)
