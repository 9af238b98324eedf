use Rattle.std.proofs.Common.{ap, sym, ◌∙◌}
use Rattle.pdb.specs.Views.{symbol_of}
use Rattle.pdb_code.specs.Kept.{site_role}
use Rattle.pdb_code.proofs.Sites.{site_read, counted_site_read}
use Rattle.pdb_code.proofs.role.role_of.Goals as goal

pub returns-in-4429-clause-is : goal.returns-in-4429-clause-is
returns-in-4429-clause-is c =
    c.site_role.ensures ∙ (ap (site_role 14) c.raw_bytes.ensures ∙ sym (site_read (symbol_of c.args.symbol.now).bytes (sym c.raw_kind.ensures ∙ c.in-4429.is)))

pub returns-in-4445-clause-is : goal.returns-in-4445-clause-is
returns-in-4445-clause-is c =
    c.site_role-in-4445.ensures ∙ (ap (site_role 18) c.raw_bytes-in-4445.ensures ∙ sym (counted_site_read (symbol_of c.args.symbol.now).bytes (sym c.raw_kind.ensures ∙ c.in-4445.is)))
