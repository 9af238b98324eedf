use Rattle.pdb_list.proofs.Refused.{refused_is}
use Rattle.pdb_text.proofs.Written.{on_ok}
use Rattle.pdb_list.proofs.Headings.{text_of_title, text_of_refusal}
use Rattle.pdb_list.proofs.symbols.put_record.Goals as goal

pub returns-in-Ok : goal.returns-in-Ok
returns-in-Ok c = on_ok c.put_heading.result (λ h. (let text = text_of_title _ _ c.in-Ok.ensures.reads in rw text h)) c.put_heading.ensures

pub returns-in-Err : goal.returns-in-Err
returns-in-Err c = on_ok c.put_refused.result (λ h. (let r = refused_is c.in-Err.e _ c.in-Err.ensures.reads h.0 in let text = text_of_refusal _ _ r in rw text h.1)) c.put_refused.ensures
