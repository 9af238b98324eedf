use Rattle.pdb.specs.Views.{symbol_of}
use Rattle.tool_types.specs.KeptViews.{kept_names}
use Rattle.tool_symbols.proofs.OffsetLines.{local_line}
use Rattle.tool_fields.proofs.Results.{more}
use Rattle.tool_symbols.proofs.symbol_texts.put_local_symbol.Goals as goal

pub returns-clause-line : goal.returns-clause-line
returns-clause-line c =
    let same = c.raw_bytes.ensures in
    let found = c.in-Some in
    let fields = rw same at found.ensures.fields in
    let line = local_line (kept_names c.args.kept.now) c.args.machine c.args.depth (symbol_of c.args.symbol.now) found.type_index found.flags found.name.now c.requires (rw same at found.ensures.there) fields.0 fields.1 (rw same at found.ensures.name) in
    rw line (more c.put_local_text.result _ _ _ _ _ (rw c.index.ensures at c.put_local_text.ensures.text) c.in_ok-put_blanks.ensures)
