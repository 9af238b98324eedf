use Rattle.std.proofs.Common.{sym, ap, ◌∙◌}
use Rattle.std.specs.Option.{option_map}
use Rattle.pdb.specs.Text.{name_bytes}
use Rattle.pdb_places.specs.PublicTable.{shown_found}
use Rattle.pdb_resolve.specs.Resolved.{spelled_by}
use Rattle.pdb_resolve.proofs.OtherNames.{public_names}
use Rattle.pdb_resolve.proofs.kept_file.KeptFile.public.Goals as goal

pub returns-in_ok-spelled-in-Some-clause-named : goal.returns-in_ok-spelled-in-Some-clause-named
returns-in_ok-spelled-in-Some-clause-named g c = λ told.
    let file = c.args.pdb.now.file in
    let public = c.in-Some.public in
    public_names file _ (shown_found public) c.naming_at.result
    (sym (c.in_ok-public.ensures.found told) ∙ ap (option_map shown_found) c.in-Some.is)
    (c.naming_at.ensures (spelled_by file (name_bytes public.name)) (rw c.in_ok-public.ensures.continues.file at (c.in_ok-spelled-in-Some.ensures.name _ c.in_ok-public.ensures.kept told)))
