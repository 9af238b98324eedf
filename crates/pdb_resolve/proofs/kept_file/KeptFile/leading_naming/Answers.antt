use Rattle.std.proofs.Common.{◌≡◌, ℕ, List, Option, ap, ◌∙◌}
use Rattle.std.specs.Prelude.{option_copied}
use Rattle.std.specs.Option.{option_map}
use Rattle.pdb_code.specs.Namings.{plain, name_shown}
use Rattle.pdb_code.specs.Leading.{leading_text}
use Rattle.pdb_resolve.specs.Resolved.{target_name}
use Rattle.pdb_resolve.proofs.OtherNames.{bytes_of_name}
use Rattle.pdb_resolve.proofs.kept_file.KeptFile.leading_naming.Goals as goal

pub returns-clause-named : goal.returns-clause-named
returns-clause-named g c = λ told.
    let leading = c.args.leading in
    let same : option_map name_shown (option_copied c.as_ref.result) ≡ target_name c.args.pdb.now.file leading.target =
    ap (option_map name_shown) c.as_ref.ensures.value ∙ bytes_of_name c.in_ok-target.target (target_name c.args.pdb.now.file leading.target) (c.in_ok-target.ensures.name told) in
    c.naming_at.ensures (leading_text leading.kind leading.number (target_name c.args.pdb.now.file leading.target))
    (c.in_ok-name.ensures.name ∙ ap (λ (t : Option (List ℕ)). plain (leading_text leading.kind leading.number t)) same)
