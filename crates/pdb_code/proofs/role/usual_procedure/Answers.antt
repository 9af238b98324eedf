use Rattle.std.proofs.Common.{ap, subst, sym, ◌∙◌}
use Rattle.pdb.specs.Views.{symbol_of}
use Rattle.pdb_code.specs.Kept.{EndsInZero, procedure_role}
use Rattle.pdb_code.proofs.ProcedureRecords.{procedure_read}
use Rattle.pdb_code.proofs.role.usual_procedure.Goals as goal

pub returns-in-Some-clause-is : goal.returns-in-Some-clause-is
returns-in-Some-clause-is c =
    c.in-Some.ensures.span ∙ (ap procedure_role c.raw_bytes.ensures ∙ sym (procedure_read (symbol_of c.args.symbol.now).bytes c.requires (subst EndsInZero c.raw_bytes.ensures c.in-Some.ensures.ends)))
