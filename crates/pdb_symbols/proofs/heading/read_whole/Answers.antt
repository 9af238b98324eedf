use Rattle.pdb_symbols.specs.Data.{shown}
use Rattle.pdb_symbols.proofs.Headings.{whole_read}
use Rattle.pdb_symbols.proofs.heading.read_whole.Goals as goal

-- src/heading.rt:76:1
pub returns : goal.returns
returns c = whole_read c.args.bytes.now c.args.form (shown c.in_ok-parse_record.field-0) _ c.requires.listed c.in_ok-parse_record.ensures c.name-name.ensures
