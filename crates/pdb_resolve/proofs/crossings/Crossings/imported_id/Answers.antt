use Rattle.std.proofs.Common.{ap, sym, ◌∙◌}
use Rattle.std.specs.Option.{option_map}
use Rattle.pdb.specs.Text.{name_bytes}
use Rattle.pdb_resolve.specs.Frames.{string_in}
use Rattle.pdb_resolve.proofs.CrossingLaws.{not_named}
use Rattle.pdb_resolve.proofs.crossings.Crossings.imported_id.Goals as goal

pub returns-in-None-clause-id : goal.returns-in-None-clause-id
returns-in-None-clause-id g c = λ told.
    let pdb = c.args.pdb.now in
    let r = c.in-Some.reference in
    let kept = c.in_ok-read_imports.ensures.kept pdb c.requires.kept c.requires.code in
    let said = sym (c.reference.ensures pdb c.args.code.now.code.now kept told (c.requires.code.numbered told) c.in_ok-read_imports.ensures.read) ∙ ap (option_map (λ x. record { name = x.0.0.0; local = x.1.0.0 })) c.in-Some.is in
    sym (not_named pdb.file _ _ _ (record { name = r.0.0.0; local = r.1.0.0 }) said (ap (λ strings. string_in strings r.0.0.0) (sym (c.requires.strings told)) ∙ (sym c.name_of.ensures ∙ ap (option_map name_bytes) c.in-None.is)))
