use Rattle.std.proofs.Common.{◌≡◌, ap, sym, ◌∙◌}
use Rattle.pdb.specs.CrossModule.{global_of}
use Rattle.pdb.specs.Text.{name_bytes}
use Rattle.pdb_resolve.specs.AcrossModules.{exports_where}
use Rattle.pdb_resolve.specs.FileParts.{module_numbered}
use Rattle.pdb_resolve.proofs.CrossingLaws.{exports_led, exports_not_led}
use Rattle.pdb_resolve.proofs.crossings.Crossings.exported_by.Goals as goal

pub returns-in_default-clause-id : goal.returns-in_default-clause-id
returns-in_default-clause-id g c = λ told.
    let kept = c.in_ok-make_numbers.ensures.kept c.args.pdb.now c.requires.kept c.requires.listed in
    let none = sym (c.number.ensures c.args.pdb.now kept told c.in_ok-make_numbers.ensures.made) ∙ c.in_default.is in
    sym (ap (global_of c.args.local.0.0) (exports_not_led c.args.pdb.now.file (name_bytes c.args.name) none))

pub returns-clause-id : goal.returns-clause-id
returns-clause-id g c = λ told.
    let continues = c.read_exports.ensures.continues in
    let kept = c.in_ok-make_numbers.ensures.kept c.args.pdb.now c.requires.kept c.requires.listed in
    let is = sym (c.number.ensures c.args.pdb.now kept (continues.told told) c.in_ok-make_numbers.ensures.made) ∙ c.in-Some.is in
    c.exported.ensures c.read_exports.new.pdb c.in_ok-read_exports.ensures.kept told c.in_ok-read_exports.ensures.read
    ∙ (ap (λ file. global_of c.args.local.0.0 (exports_where (module_numbered file c.in-Some.number))) continues.file
    ∙ ap (global_of c.args.local.0.0) (exports_led c.args.pdb.now.file (name_bytes c.args.name) c.in-Some.number is))
