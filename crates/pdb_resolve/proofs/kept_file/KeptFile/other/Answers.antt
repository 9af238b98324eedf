use Rattle.std.proofs.Common.{sym, ap, ◌∙◌}
use Rattle.std.specs.Option.{option_map}
use Rattle.pdb_code.specs.Kept.{shown_leading}
use Rattle.pdb_resolve.proofs.OtherNames.{still_where}
use Rattle.pdb_resolve.proofs.kept_file.KeptFile.other.Goals as goal

pub returns-in-Some-clause-code : goal.returns-in-Some-clause-code
returns-in-Some-clause-code g c =
    still_where c.args.self.now.modules c.leading_naming.new.self.modules c.args.number c.args.place (shown_leading c.in-Some.leading)
    (sym c.in_ok-leading.ensures.leading ∙ ap (option_map shown_leading) c.in-Some.is) c.leading_naming.ensures.stays
