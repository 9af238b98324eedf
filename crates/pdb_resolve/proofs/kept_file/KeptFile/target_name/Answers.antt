use Rattle.std.proofs.Common.{None, ap, ◌∙◌}
use Rattle.std.specs.Prelude.{slice_index_or}
use Rattle.pdb_resolve.proofs.kept_file.KeptFile.target_name.Goals as goal

pub returns-in-Some-clause-stays : goal.returns-in-Some-clause-stays
returns-in-Some-clause-stays g c = λ k m h. ap (λ codes. slice_index_or codes k None) c.begun_name.ensures.codes ∙ c.module_at.ensures.stays k m h

pub returns-in-None-clause-stays : goal.returns-in-None-clause-stays
returns-in-None-clause-stays g c = λ k m h.
    ap (λ codes. slice_index_or codes k None) c.public_there.ensures.codes ∙ (ap (λ codes. slice_index_or codes k None) c.begun_name.ensures.codes ∙ c.module_at.ensures.stays k m h)

pub returns-in_err-name-clause-stays : goal.returns-in_err-name-clause-stays
returns-in_err-name-clause-stays g c = λ k m h. ap (λ codes. slice_index_or codes k None) c.begun_name.ensures.codes ∙ c.module_at.ensures.stays k m h
