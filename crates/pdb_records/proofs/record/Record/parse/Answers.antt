use Rattle.pdb_records.proofs.RecordClauses.{Read, found_of, kind_clause}
use Rattle.pdb_records.proofs.record.Record.parse.Goals as goal

pub returns-clause-found : goal.returns-clause-found
returns-clause-found c =
    let read : Read c.parse_record.result c.args.symbol.now.bytes.now = rw (c.raw_kind.ensures, c.raw_bytes.ensures) at c.parse_record.ensures in
    found_of c.parse_record.result _ read

pub returns-clause-kind : goal.returns-clause-kind
returns-clause-kind c =
    let read : Read c.parse_record.result c.args.symbol.now.bytes.now = rw (c.raw_kind.ensures, c.raw_bytes.ensures) at c.parse_record.ensures in
    kind_clause c.parse_record.result _ read
