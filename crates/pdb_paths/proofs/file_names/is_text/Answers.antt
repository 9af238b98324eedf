use Rattle.pdb_paths.proofs.Texts.{is_none, is_text}
use Rattle.pdb_paths.proofs.file_names.is_text.Goals as goal

pub returns-in-Ok : goal.returns-in-Ok
returns-in-Ok c = is_text c.args.bytes.now c.in-Ok.ensures.cases.1

pub returns-in-Err : goal.returns-in-Err
returns-in-Err c = is_none c.args.bytes.now c.in-Err.ensures.cases.0
